use Rattle.std.proofs.Common.{map, refl, string_bytes}
use Rattle.commands.proofs.ServeClauses.{serve_all, serve_complete, serve_door_fault, serve_ended, serve_exactly, serve_no_recording, serve_no_thread, serve_read_fault, serve_usage, serve_usage_else, serve_write_fault}
use Rattle.commands.specs.ServeWords.{serve_asked}
use Rattle.commands.proofs.serving.serve_words.Goals as goal

pub returns-clause-all_ended : goal.returns-clause-all_ended
returns-clause-all_ended g c =
    λ done. serve_ended g.L.Library.gave (serve_asked (map string_bytes c.args.words.now)) _ _ _ _ _ _ c.carry_out.ensures.ended.0 _ _ _ c.carry_out.ensures.ended.1 c.carry_out.ensures.ended.2 done

pub returns-clause-all_served : goal.returns-clause-all_served
returns-clause-all_served g c =
    λ done. serve_all g.L.Library.state g.L.Library.gave g.met.L.Library.tells _ (serve_asked (map string_bytes c.args.words.now)) _ _ _ _ refl (returns-clause-all_ended g c done)

pub returns-clause-exactly : goal.returns-clause-exactly
returns-clause-exactly g c =
    serve_exactly g.L.Library.state g.L.Library.gave g.met.L.Library.tells _ (serve_asked (map string_bytes c.args.words.now)) _ _ _ _ _ _ c.carry_out.ensures.ended.0 _ _ _ refl c.carry_out.ensures.ended.1 c.carry_out.ensures.ended.2

pub returns-clause-complete : goal.returns-clause-complete
returns-clause-complete g c =
    serve_complete _ (serve_asked (map string_bytes c.args.words.now)) _ _ _ _ _ _ _ _ _ (returns-clause-exactly g c) (λ is. serve_no_thread g.L.Library.gave (serve_asked (map string_bytes c.args.words.now)) _ _ _ _ _ _ c.carry_out.ensures.ended.0 _ _ _ c.carry_out.ensures.ended.1 c.carry_out.ensures.ended.2 is) (λ is. serve_door_fault g.L.Library.gave (serve_asked (map string_bytes c.args.words.now)) _ _ _ _ _ _ c.carry_out.ensures.ended.0 _ _ _ c.carry_out.ensures.ended.1 c.carry_out.ensures.ended.2 is)

pub returns-clause-usage : goal.returns-clause-usage
returns-clause-usage g c =
    λ is. serve_usage g.L.Library.gave (serve_asked (map string_bytes c.args.words.now)) _ _ _ _ _ _ c.carry_out.ensures.ended.0 _ _ _ c.carry_out.ensures.ended.1 c.carry_out.ensures.ended.2 is

pub returns-clause-usage_else : goal.returns-clause-usage_else
returns-clause-usage_else g c =
    λ none. serve_usage_else g.L.Library.gave (serve_asked (map string_bytes c.args.words.now)) _ _ _ _ _ _ c.carry_out.ensures.ended.0 _ _ _ c.carry_out.ensures.ended.1 c.carry_out.ensures.ended.2 none

pub returns-clause-read_fault : goal.returns-clause-read_fault
returns-clause-read_fault g c =
    λ is. serve_read_fault g.L.Library.state g.L.Library.gave g.met.L.Library.tells (serve_asked (map string_bytes c.args.words.now)) _ _ _ _ _ _ c.carry_out.ensures.ended.0 _ _ _ c.carry_out.ensures.ended.1 c.carry_out.ensures.ended.2 is

pub returns-clause-write_fault : goal.returns-clause-write_fault
returns-clause-write_fault g c =
    λ is. serve_write_fault g.L.Library.gave (serve_asked (map string_bytes c.args.words.now)) _ _ _ _ _ _ c.carry_out.ensures.ended.0 _ _ _ c.carry_out.ensures.ended.1 c.carry_out.ensures.ended.2 is

pub returns-clause-no_thread : goal.returns-clause-no_thread
returns-clause-no_thread g c =
    λ is. serve_no_thread g.L.Library.gave (serve_asked (map string_bytes c.args.words.now)) _ _ _ _ _ _ c.carry_out.ensures.ended.0 _ _ _ c.carry_out.ensures.ended.1 c.carry_out.ensures.ended.2 is

pub returns-clause-door_fault : goal.returns-clause-door_fault
returns-clause-door_fault g c =
    λ is. serve_door_fault g.L.Library.gave (serve_asked (map string_bytes c.args.words.now)) _ _ _ _ _ _ c.carry_out.ensures.ended.0 _ _ _ c.carry_out.ensures.ended.1 c.carry_out.ensures.ended.2 is

pub returns-clause-no_recording : goal.returns-clause-no_recording
returns-clause-no_recording g c =
    serve_no_recording g.L.Library.gave (serve_asked (map string_bytes c.args.words.now)) _ _ _ _ _ _ c.carry_out.ensures.ended.0 _ _ _ c.carry_out.ensures.ended.1 c.carry_out.ensures.ended.2
