use Rattle.std.proofs.Common.{◌≡◌, ◌==◌, true, false, [], ◌++◌, map, refl, sym, ◌∙◌, append-nil, rules}
use Rattle.http_front.specs.Views.{heard_of}
use Rattle.http_items.specs.Items.{IsWithin}
use Rattle.http_items.specs.Standings.{items_from}
use Rattle.link_sessions.specs.Servers.{service_of, terms_at}
use Rattle.link_sessions.specs.declared.sessions.Ended.TheVariants.{NoMemory}
use Rattle.link_sessions.proofs.DoingLaws.{begun_nothing}
use Rattle.link_sessions.proofs.GoingLaws.{at_close, at_end, at_end_all, at_piece, going_first, goes_on, read_failed, within_new}
use Rattle.link_sessions.proofs.sessions.serve_link.Goals as goal
use Rattle.link_sessions.proofs.sessions.serve_link.Goals.{in-Ok-serve_items, in-Err}

pub loop-init : goal.loop-init
loop-init g c = record {
  own = c.requires.own;
  going = going_first g.K.Link.state g.K.Link.exchanged (terms_at c.args.server.now.config.tenants c.args.tenant) c.args.tenant (service_of c.args.server.now c.args.tenant (g.C.Clock.gave c.args.clock.now))
      g.met.K.Link.nothing c.args.link.now c.args.visit.now.meter_visit c.new-front.result c.new-front.ensures c.requires.fresh;
  parts = record { parts = refl; pool = refl };
}

pub returns-in_default-clause-serves : goal.returns-in_default-clause-serves
returns-in_default-clause-serves g c =
    read_failed g.K.Link.state g.K.Link.exchanged (terms_at c.args.server.now.config.tenants c.args.tenant) c.args.tenant (service_of c.args.server.now c.args.tenant (g.C.Clock.gave c.args.clock.now)) g.met.K.Link.behind
    c.args.link.now c.loop.link c.read.new.self c.args.visit.now.meter_visit c.loop.visit.meter_visit c.loop.front c.loop.invariant.going c.in_default.ensures.none c.in_default.ensures.err

pub returns-in_default-finish-clause-serves : goal.returns-in_default-finish-clause-serves
returns-in_default-finish-clause-serves g c =
    let given = terms_at c.args.server.now.config.tenants c.args.tenant in
    let s = service_of c.args.server.now c.args.tenant (g.C.Clock.gave c.args.clock.now) in
    let none : (c.in-Ok.count == 0) ≡ true = search rules in
    at_end g.K.Link.state g.K.Link.exchanged given c.args.tenant s g.met.K.Link.behind NoMemory c.args.link.now c.loop.link c.read.new.self c.read.new.self c.args.visit.now.meter_visit c.loop.visit.meter_visit c.loop.visit.meter_visit c.loop.front c.in-Ok.count c.read.new.into []
    c.loop.invariant.going c.in-Ok.ensures.taken c.in-Ok.ensures.ok none (begun_nothing g.K.Link.state g.K.Link.exchanged given c.args.tenant g.met.K.Link.nothing s [] c.read.new.self c.loop.visit.meter_visit) (items_from c.loop.front [] true) refl tt

pub serve_items-requires-clause-within : goal.serve_items-requires-clause-within
serve_items-requires-clause-within g c = λ lifetimes bounds.
    within_new IsWithin c.loop.invariant.going.read c.loop.invariant.going.heard (map heard_of c.in-Ok-finish.items.items) c.loop.front [] true c.loop.invariant.going.goes c.in-Ok-finish.ensures.given
    (c.items_have_numbers.ensures.within (c.loop.invariant.going.read ++ []) true)

pub returns-then-count-eq0-clause-serves : goal.returns-then-count-eq0-clause-serves
returns-then-count-eq0-clause-serves g c =
    let given = terms_at c.args.server.now.config.tenants c.args.tenant in
    let s = service_of c.args.server.now c.args.tenant (g.C.Clock.gave c.args.clock.now) in
    let none : (c.in-Ok.count == 0) ≡ true = search rules in
    let heard = map heard_of c.in-Ok-finish.items.items in
    elim c.match-serve_items.branch [
      | in-Ok-serve_items w ↦ rw w.result-is
          (at_end_all g.K.Link.state g.K.Link.exchanged given c.args.tenant s g.met.K.Link.behind c.args.link.now c.loop.link c.read.new.self c.serve_items.new.link c.args.visit.now.meter_visit c.loop.visit.meter_visit c.serve_items.new.visit.meter_visit c.loop.front c.in-Ok.count c.read.new.into heard
          c.loop.invariant.going c.in-Ok.ensures.taken c.in-Ok.ensures.ok none w.in-Ok-serve_items.ensures.ok c.in-Ok-finish.ensures.given)
      | in-Err w ↦ rw w.result-is
          (at_end g.K.Link.state g.K.Link.exchanged given c.args.tenant s g.met.K.Link.behind w.in-Err.ended c.args.link.now c.loop.link c.read.new.self c.serve_items.new.link c.args.visit.now.meter_visit c.loop.visit.meter_visit c.serve_items.new.visit.meter_visit c.loop.front c.in-Ok.count c.read.new.into heard
          c.loop.invariant.going c.in-Ok.ensures.taken c.in-Ok.ensures.ok none w.in-Err.ensures.err [] (sym c.in-Ok-finish.ensures.given ∙ sym (append-nil heard)) w.in-Err.ensures.cause)
    ]

pub returns-in_default-feed-clause-serves : goal.returns-in_default-feed-clause-serves
returns-in_default-feed-clause-serves g c =
    let given = terms_at c.args.server.now.config.tenants c.args.tenant in
    let s = service_of c.args.server.now c.args.tenant (g.C.Clock.gave c.args.clock.now) in
    let some : (c.in-Ok.count == 0) ≡ false = search rules in
    let piece = c.split_at.result.0.now in
    at_piece g.K.Link.state g.K.Link.exchanged given c.args.tenant s g.met.K.Link.behind NoMemory c.args.link.now c.loop.link c.read.new.self c.read.new.self c.args.visit.now.meter_visit c.loop.visit.meter_visit c.loop.visit.meter_visit c.loop.front c.in-Ok.count c.read.new.into piece []
    c.loop.invariant.going c.in-Ok.ensures.taken c.in-Ok.ensures.ok some c.split_at.ensures.front (begun_nothing g.K.Link.state g.K.Link.exchanged given c.args.tenant g.met.K.Link.nothing s [] c.read.new.self c.loop.visit.meter_visit) (items_from c.loop.front piece false) refl tt

pub serve_items-requires-in-loop-clause-within : goal.serve_items-requires-in-loop-clause-within
serve_items-requires-in-loop-clause-within g c = λ lifetimes bounds.
    within_new IsWithin c.loop.invariant.going.read c.loop.invariant.going.heard (map heard_of c.in-Ok-feed.items.items) c.loop.front c.split_at.result.0.now false c.loop.invariant.going.goes c.in-Ok-feed.ensures.given
    (c.items_have_numbers.ensures.within (c.loop.invariant.going.read ++ c.split_at.result.0.now) false)

pub loop-preserved : goal.loop-preserved
loop-preserved g c =
    let some : (c.in-Ok.count == 0) ≡ false = search rules in
    let behind = c.serve_items-in-loop.ensures in
    record {
      own = behind.own;
      going = goes_on g.K.Link.state g.K.Link.exchanged (terms_at c.args.server.now.config.tenants c.args.tenant) c.args.tenant (service_of c.args.server.now c.args.tenant (g.C.Clock.gave c.args.clock.now)) g.met.K.Link.behind
          c.args.link.now c.loop.link c.read.new.self c.serve_items-in-loop.new.link c.args.visit.now.meter_visit c.loop.visit.meter_visit c.serve_items-in-loop.new.visit.meter_visit c.loop.front c.feed.new.self c.in-Ok.count c.read.new.into c.split_at.result.0.now (map heard_of c.in-Ok-feed.items.items)
          c.loop.invariant.going c.in-Ok.ensures.taken c.in-Ok.ensures.ok some c.split_at.ensures.front c.in-Ok-true.ensures.ok c.in-Ok-feed.ensures.goes behind.later;
      parts = record { parts = behind.parts.parts ∙ c.loop.invariant.parts.parts; pool = behind.parts.pool ∙ c.loop.invariant.parts.pool };
    }

pub returns-in-Ok-false-clause-serves : goal.returns-in-Ok-false-clause-serves
returns-in-Ok-false-clause-serves g c =
    let some : (c.in-Ok.count == 0) ≡ false = search rules in
    at_close g.K.Link.state g.K.Link.exchanged (terms_at c.args.server.now.config.tenants c.args.tenant) c.args.tenant (service_of c.args.server.now c.args.tenant (g.C.Clock.gave c.args.clock.now)) g.met.K.Link.behind
    c.args.link.now c.loop.link c.read.new.self c.serve_items-in-loop.new.link c.args.visit.now.meter_visit c.loop.visit.meter_visit c.serve_items-in-loop.new.visit.meter_visit c.loop.front c.in-Ok.count c.read.new.into c.split_at.result.0.now (map heard_of c.in-Ok-feed.items.items)
    c.loop.invariant.going c.in-Ok.ensures.taken c.in-Ok.ensures.ok some c.split_at.ensures.front c.in-Ok-false.ensures.ok c.in-Ok-feed.ensures.given (c.in-Ok-false.ensures.kept c.in-Ok-false.field-0-test)

pub returns-in-Err-serve_items-clause-serves : goal.returns-in-Err-serve_items-clause-serves
returns-in-Err-serve_items-clause-serves g c =
    let some : (c.in-Ok.count == 0) ≡ false = search rules in
    let heard = map heard_of c.in-Ok-feed.items.items in
    at_piece g.K.Link.state g.K.Link.exchanged (terms_at c.args.server.now.config.tenants c.args.tenant) c.args.tenant (service_of c.args.server.now c.args.tenant (g.C.Clock.gave c.args.clock.now)) g.met.K.Link.behind
    c.in-Err-serve_items.ended c.args.link.now c.loop.link c.read.new.self c.serve_items-in-loop.new.link c.args.visit.now.meter_visit c.loop.visit.meter_visit c.serve_items-in-loop.new.visit.meter_visit c.loop.front c.in-Ok.count c.read.new.into c.split_at.result.0.now heard
    c.loop.invariant.going c.in-Ok.ensures.taken c.in-Ok.ensures.ok some c.split_at.ensures.front c.in-Err-serve_items.ensures.err [] (sym c.in-Ok-feed.ensures.given ∙ sym (append-nil heard)) c.in-Err-serve_items.ensures.cause
