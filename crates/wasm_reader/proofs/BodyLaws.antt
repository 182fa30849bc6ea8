-- The bodies of functions are read as their syntaxes have them.
use Rattle.std.proofs.Common.{ℕ, Result, Ok, Err, MatchResult, ap, sym, ◌∙◌, subst}
use Rattle.wasm_ops.specs.declared.faults.Fault.{Fault}
use Rattle.wasm_ops.specs.declared.faults.Refusal.TheVariants.{CutShort, CountsDiffer}
use Rattle.wasm_ops.specs.declared.modules.Body.{Body}
use Rattle.wasm_ops.specs.Input.{Input}
use Rattle.wasm_code.specs.Bodies.{SpellsBody, RefusesBody, body_from}
use Rattle.wasm_code.proofs.BodyLaws.{body_tells, body_or_fault, one_body, one_refusal}
use Rattle.wasm_code.proofs.Decisions.{Decides, read_parts, read_same, fault_same}
use Rattle.wasm_reader.specs.Syntax.{or_fault}
use Rattle.wasm_reader.specs.Bodies.{moved, end_place, body_answer, body, sized_body, same_count, bodies}
use Rattle.wasm_reader.proofs.SyntaxLaws.{IsDecidedBy, number_decided, checked_decided, inside_decided, ◌⨾⨾◌}
use Rattle.wasm_reader.proofs.ItemLaws.{items_decided}

-- whichever of the two the bytes are
answer_decides
    : (before : Input) (answer : Result Body Fault) → MatchResult answer (SpellsBody before.left) (RefusesBody before.left)
    → Decides Body (body_answer before.at (end_place before) answer) (body.Reads before) (body.Refuses before)
answer_decides before (Ok spelt) spells =
    let bytes = before.left in
    let Spells : Body → Type 0 = SpellsBody bytes in
    record {
      found = λ x after e. let parts = read_parts spelt x (end_place before) after e in (subst Spells parts.0 spells, sym parts.1);
      only = λ x after reads. read_same spelt x (end_place before) after (one_body bytes spelt x spells reads.0) (sym reads.1);
      refused = λ fault e. let bad : ⊥ = cc in absurd bad;
      only_refused = λ fault refuses. absurd (body_or_fault bytes spelt refuses.0 spells refuses.1);
    }
answer_decides before (Err first) refused_with =
    let bytes = before.left in
    record {
      found = λ x after e. let bad : ⊥ = cc in absurd bad;
      only = λ x after reads. absurd (body_or_fault bytes x first reads.0 refused_with);
      refused = λ fault e. (first, refused_with, cc);
      only_refused = λ fault refuses.
          let same = one_refusal bytes first refuses.0 refused_with refuses.1 in
          fault_same (moved before.at first) fault (ap (moved before.at) same ∙ sym refuses.2);
    }

pub body_decided : IsDecidedBy body
body_decided = record { decides = λ before. answer_decides before (body_from before.left) (body_tells before.left) }

pub sized_body_decided : IsDecidedBy sized_body
sized_body_decided = number_decided ⨾⨾ λ size. inside_decided size CutShort body_decided

pub bodies_decided : (functions : ℕ) → IsDecidedBy (bodies functions)
bodies_decided functions =
    checked_decided (same_count functions) (or_fault CountsDiffer) number_decided ⨾⨾ λ count. items_decided count (λ so_far. sized_body_decided)
