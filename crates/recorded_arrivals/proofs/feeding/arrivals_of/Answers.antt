use Rattle.std.proofs.Common.{◌≡◌, map, refl, arith}
use Rattle.std.proofs.lemmas.List.{length-map}
use Rattle.recording_format.specs.Connections.{tenants_of}
use Rattle.recorded_arrivals.specs.Arrivals.{arrivals}
use Rattle.recorded_arrivals.specs.Seen.{arrival_seen}
use Rattle.recorded_arrivals.proofs.FeedingLaws.{all_arrived, too_many_in_all}
use Rattle.recorded_arrivals.proofs.feeding.arrivals_of.Goals as goal

pub returns-then-len-gt-MOST_ITEMS-clause-refused : goal.returns-then-len-gt-MOST_ITEMS-clause-refused
returns-then-len-gt-MOST_ITEMS-clause-refused c =
    let all = c.args.recording.now in
    let new = map arrival_seen c.end_all.new.arrived.items in
    let is : new ≡ arrivals all =
    all_arrived all (map arrival_seen c.in_ok-fronts.field-0.arrived.items) new c.in_ok-fronts.ensures.arrived
    (c.in_ok-end_all.ensures all (tenants_of all) c.in_ok-fronts.ensures.fed c.in_ok-fronts.ensures.begun c.last.ensures) in
    (refl, too_many_in_all all new is (omega (arith, c.len.ensures, c.end_all.new.arrived.ok.0, length-map c.end_all.new.arrived.items arrival_seen)))

pub returns-clause-all : goal.returns-clause-all
returns-clause-all c =
    let all = c.args.recording.now in
    all_arrived all (map arrival_seen c.in_ok-fronts.field-0.arrived.items) (map arrival_seen c.end_all.new.arrived.items) c.in_ok-fronts.ensures.arrived
    (c.in_ok-end_all.ensures all (tenants_of all) c.in_ok-fronts.ensures.fed c.in_ok-fronts.ensures.begun c.last.ensures)
