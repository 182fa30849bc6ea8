use Rattle.std.proofs.Common.{◌≡◌, ◌<◌, ◌≤◌, List, ◌+◌, map, length, take, drop, get_or, ap, subst, refl, arith}
use Rattle.std.proofs.lemmas.List.{length-map}
use Rattle.http_front.specs.Views.{heard_of}
use Rattle.recording_format.specs.declared.records.Record.{Record}
use Rattle.recording_format.specs.Following.{IsLegal}
use Rattle.recording_format.proofs.StandingLaws.{few_connections}
use Rattle.recorded_arrivals.specs.Seen.{arrival_seen}
use Rattle.recorded_arrivals.proofs.FeedingLaws.{starts, begun_at, fed_next, too_many, at_last, all_begun}
use Rattle.recorded_arrivals.proofs.feeding.feed_all.Goals as goal

pub loop-record-init : goal.loop-record-init
loop-record-init c =
    let legal : IsLegal c.args.recording.now = subst (λ (rs : List Record). IsLegal rs) c.records-record-items.ensures.same c.records-record-items.ensures.legal in
    starts c.args.recording.now c.new-fronts.result.items (map arrival_seen c.new-arrived.result.items) legal c.new-fronts.ensures.items (ap (λ xs. map arrival_seen xs) c.new-arrived.ensures.items)

pub take-requires : goal.take-requires
take-requires c =
    let below : c.loop-record.record-index < length c.args.recording.now = omega (arith, ap (λ (rs : List Record). length rs) c.records-record-items.ensures.same) in
    let is : c.record-item.result ≡ get_or c.args.recording.now c.loop-record.record-index c.record-item.result = cc in
    begun_at c.args.recording.now c.loop-record.record-index c.record-item.result c.loop-record.fronts.items (map arrival_seen c.loop-record.arrived.items) below is c.loop-record.invariant

pub returns-then-len-gt-MOST_ITEMS-clause-refused : goal.returns-then-len-gt-MOST_ITEMS-clause-refused
returns-then-len-gt-MOST_ITEMS-clause-refused c =
    let i = c.loop-record.record-index in
    let all = c.args.recording.now in
    let below : i < length all = omega (arith, ap (λ (rs : List Record). length rs) c.records-record-items.ensures.same) in
    let is : c.record-item.result ≡ get_or all i c.record-item.result = cc in
    let more = map arrival_seen c.append.new.arrived.items in
    let next = fed_next all i c.record-item.result c.loop-record.fronts.items c.take.new.fronts.items
    (map arrival_seen c.loop-record.arrived.items) more (map heard_of c.in_ok-items.items.items)
    below is c.loop-record.invariant c.in_ok-items.ensures c.in_ok-append.ensures in
    let many : 4096 < length more = omega (arith, c.len.ensures, c.append.new.arrived.ok.0, length-map c.append.new.arrived.items arrival_seen) in
    (refl, too_many all (take (i + 1) all) (drop (i + 1) all) c.take.new.fronts.items more next many)

pub loop-record-preserved : goal.loop-record-preserved
loop-record-preserved c =
    let below : c.loop-record.record-index < length c.args.recording.now = omega (arith, ap (λ (rs : List Record). length rs) c.records-record-items.ensures.same) in
    let is : c.record-item.result ≡ get_or c.args.recording.now c.loop-record.record-index c.record-item.result = cc in
    fed_next c.args.recording.now c.loop-record.record-index c.record-item.result c.loop-record.fronts.items c.take.new.fronts.items
    (map arrival_seen c.loop-record.arrived.items) (map arrival_seen c.append.new.arrived.items) (map heard_of c.in_ok-items.items.items)
    below is c.loop-record.invariant c.in_ok-items.ensures c.in_ok-append.ensures

pub returns-clause-begun : goal.returns-clause-begun
returns-clause-begun c =
    let all = c.args.recording.now in
    let arrived = map arrival_seen c.loop-record.arrived.items in
    let done : length all ≤ c.loop-record.record-index = omega (arith, ap (λ (rs : List Record). length rs) c.records-record-items.ensures.same) in
    all_begun all c.loop-record.fronts.items arrived (at_last all c.loop-record.record-index c.loop-record.fronts.items arrived done c.loop-record.invariant)

pub returns-clause-few : goal.returns-clause-few
returns-clause-few c =
    let all = c.args.recording.now in
    let arrived = map arrival_seen c.loop-record.arrived.items in
    let legal : IsLegal all = subst (λ (rs : List Record). IsLegal rs) c.records-record-items.ensures.same c.records-record-items.ensures.legal in
    let done : length all ≤ c.loop-record.record-index = omega (arith, ap (λ (rs : List Record). length rs) c.records-record-items.ensures.same) in
    let last = at_last all c.loop-record.record-index c.loop-record.fronts.items arrived done c.loop-record.invariant in
    omega (arith, last.begun, few_connections all legal)
