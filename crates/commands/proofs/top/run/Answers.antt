use Rattle.std.proofs.Common.{map, refl, string_bytes}
use Rattle.commands.proofs.Clauses.{comes_brief, leaves_bytes, leaves_done, leaves_exactly, leaves_no_server, leaves_read_fault, leaves_refused, leaves_usage, leaves_write_fault}
use Rattle.commands.proofs.ReplayWalks.{writes_apart, writes_replay}
use Rattle.commands.specs.CommandLine.{command_of}
use Rattle.commands.proofs.top.run.Goals as goal

pub returns-clause-ended : goal.returns-clause-ended
returns-clause-ended g c = (c.carry_out.ensures.ended.0, c.carry_out.ensures.ended.1, c.carry_out.ensures.ended.2)

pub returns-clause-pieces : goal.returns-clause-pieces
returns-clause-pieces g c = (c.carry_out.ensures.ended.0, c.carry_out.ensures.ended.1, c.carry_out.ensures.ended.3)

pub returns-clause-exactly : goal.returns-clause-exactly
returns-clause-exactly g c =
    leaves_exactly g.L.Library.state g.L.Library.gave g.met.L.Library.tells _ (command_of (map string_bytes c.args.words.now)) _ _ c.carry_out.ensures.ended.0 _ _ _ _ _ refl
    c.carry_out.ensures.ended.1 c.carry_out.ensures.ended.2

pub returns-clause-done : goal.returns-clause-done
returns-clause-done g c =
    λ done. leaves_done g.L.Library.state g.L.Library.gave g.met.L.Library.tells _ (command_of (map string_bytes c.args.words.now)) _ _ c.carry_out.ensures.ended.0 _ _ _ _ _ refl
    c.carry_out.ensures.ended.1 c.carry_out.ensures.ended.2 done

pub returns-clause-bytes : goal.returns-clause-bytes
returns-clause-bytes g c =
    λ done. leaves_bytes g.L.Library.state g.L.Library.gave g.met.L.Library.tells _ (command_of (map string_bytes c.args.words.now)) _ _ c.carry_out.ensures.ended.0 _ _ _ _ _ refl
    c.carry_out.ensures.ended.1 c.carry_out.ensures.ended.2 done

pub returns-clause-refused : goal.returns-clause-refused
returns-clause-refused g c = λ other whole. leaves_refused c.carry_out.ensures.ended.0 _ _ _ _ _ c.carry_out.ensures.ended.2 other whole

pub returns-clause-usage : goal.returns-clause-usage
returns-clause-usage g c =
    λ is. leaves_usage g.L.Library.gave (command_of (map string_bytes c.args.words.now)) _ _ c.carry_out.ensures.ended.0 _ _ _ _ _
    c.carry_out.ensures.ended.1 c.carry_out.ensures.ended.2 is

pub returns-clause-read_fault : goal.returns-clause-read_fault
returns-clause-read_fault g c =
    λ is. leaves_read_fault g.L.Library.state g.L.Library.gave g.met.L.Library.tells (command_of (map string_bytes c.args.words.now)) _ _ c.carry_out.ensures.ended.0 _ _ _ _ _
    c.carry_out.ensures.ended.1 c.carry_out.ensures.ended.2 is

pub returns-clause-write_fault : goal.returns-clause-write_fault
returns-clause-write_fault g c =
    λ is. leaves_write_fault g.L.Library.gave (command_of (map string_bytes c.args.words.now)) _ _ c.carry_out.ensures.ended.0 _ _ _ _ _
    c.carry_out.ensures.ended.1 c.carry_out.ensures.ended.2 is

pub returns-clause-no_server : goal.returns-clause-no_server
returns-clause-no_server g c =
    leaves_no_server g.L.Library.gave (command_of (map string_bytes c.args.words.now)) _ _ c.carry_out.ensures.ended.0 _ _ _ _ _ c.carry_out.ensures.ended.1 c.carry_out.ensures.ended.2

pub returns-clause-replay : goal.returns-clause-replay
returns-clause-replay g c =
    λ done r asks. writes_replay _ (map string_bytes c.args.words.now) r _ (g.L.Library.state c.args.lib.now) (g.L.Library.state c.carry_out.new.lib) _ _ _ _ done asks
    (leaves_exactly g.L.Library.state g.L.Library.gave g.met.L.Library.tells _ (command_of (map string_bytes c.args.words.now)) _ _ c.carry_out.ensures.ended.0 _ _ _ _ _ refl
    c.carry_out.ensures.ended.1 c.carry_out.ensures.ended.2)
    (leaves_done g.L.Library.state g.L.Library.gave g.met.L.Library.tells _ (command_of (map string_bytes c.args.words.now)) _ _ c.carry_out.ensures.ended.0 _ _ _ _ _ refl
    c.carry_out.ensures.ended.1 c.carry_out.ensures.ended.2 done)
    (leaves_bytes g.L.Library.state g.L.Library.gave g.met.L.Library.tells _ (command_of (map string_bytes c.args.words.now)) _ _ c.carry_out.ensures.ended.0 _ _ _ _ _ refl
    c.carry_out.ensures.ended.1 c.carry_out.ensures.ended.2 done)

pub returns-clause-isolated : goal.returns-clause-isolated
returns-clause-isolated g c = λ done r asks.
    let short = c.carry_out.ensures.brief done r asks in
    writes_apart c.tenants_are_isolated.ensures.whole _ (map string_bytes c.args.words.now) r _ _ _ _ asks
    (comes_brief g.L.Library.state g.L.Library.gave g.met.L.Library.tells _ (command_of (map string_bytes c.args.words.now)) _ _ short.0 refl short.1 short.2 short.3)
    (returns-clause-replay g c done r asks)
