-- Pairs of line ends are nothing, other bytes a refusal.
use Rattle.std.proofs.Common.{◌≡◌, true, false, [], ◌∷◌, map, ap, sym, ◌∙◌}
use Rattle.http_items.specs.Items.{Heard, Faulty, are_pairs}
use Rattle.http_items.proofs.HeadLaws.{at_true, at_false}
use Rattle.http_items.proofs.StandingLaws.{ends_reading}
use Rattle.http_front.specs.Views.{heard_of}
use Rattle.http_front.proofs.front.ended_head.Goals as goal

pub returns-then-are_pairs : goal.returns-then-are_pairs
returns-then-are_pairs c =
    let pairs : are_pairs c.args.held.bytes.items ≡ true =
    ap are_pairs (sym c.as_slice.ensures.value) ∙ sym c.are_pairs.ensures ∙ c.if-are_pairs.true in
    ends_reading c.args.held.bytes.items (map heard_of c.new.result.items) (c.args.held.no_head, c.args.held.below)
    (ap (map heard_of) c.new.ensures.items ∙ sym (at_true (are_pairs c.args.held.bytes.items) [] (Faulty 1 false false ∷ []) pairs))

pub returns : goal.returns
returns c =
    let pairs : are_pairs c.args.held.bytes.items ≡ false =
    ap are_pairs (sym c.as_slice.ensures.value) ∙ sym c.are_pairs.ensures ∙ c.if-are_pairs.false in
    ends_reading c.args.held.bytes.items (map heard_of c.in_ok-alone.field-0.items) (c.args.held.no_head, c.args.held.below)
    (c.in_ok-alone.ensures ∙ ap (λ (h : Heard). h ∷ []) c.no_head.ensures
    ∙ sym (at_false (are_pairs c.args.held.bytes.items) [] (Faulty 1 false false ∷ []) pairs))
