-- What `read_body` answers, from what its parts do.
use Rattle.std.proofs.Common.{◌≡◌, inl, inr, ℕ, List, take, drop, length, Result, Ok, Err, IfOk, IfErr, refl, ◌∙◌, subst, ◌-◌, ◌≤◌, arith}
use Rattle.std.proofs.lemmas.List.{take_all}
use Rattle.wasm_ops.specs.declared.faults.Fault.{Fault}
use Rattle.wasm_ops.specs.declared.faults.Refusal.TheVariants.{CutShort}
use Rattle.wasm_ops.specs.declared.modules.Body.{Body}
use Rattle.wasm_ops.specs.declared.operators.Op.{Op}
use Rattle.wasm_ops.specs.declared.types.ValType.{ValType}
use Rattle.wasm_ops.specs.Input.{Input}
use Rattle.wasm_code.specs.declared.faults.CodeFault.{CodeFault}
use Rattle.wasm_code.specs.declared.faults.CodeFault.TheVariants.{Bytes, NoMemory}
use Rattle.wasm_code.specs.declared.items.Item.{Item}
use Rattle.wasm_code.specs.Locals.{locals_from}
use Rattle.wasm_code.specs.Faults.{IsFaultOf, IsAmong, GivesValue, GivesFault}
use Rattle.wasm_code.specs.Bodies.{AreCut, beginning, first_place, SpellsBody, RefusesBody}
use Rattle.wasm_code.specs.Operators.{SpellsOperators, RefusesOperators}
use Rattle.wasm_ops.proofs.InputLaws.{same_input}
use Rattle.wasm_code.proofs.ItemLaws.{locals_decides}
use Rattle.wasm_code.proofs.Completions.{sequence_of}
use Rattle.wasm_code.proofs.BodyLaws.{flat_of, body_or_fault, one_body, one_refusal}
use Rattle.wasm_code.proofs.RefusalPlaces.{body_placed}

pub spelt
    : (bytes : List ℕ) (start : Input) (locals : List ValType) (ops : List Op) (targets : List ℕ)
    → locals_from (beginning bytes) ≡ Ok (locals, start) → SpellsOperators start ops targets
    → SpellsBody bytes (record { locals = locals; ops = ops; targets = targets })
spelt bytes start locals ops targets read spells =
    let whole = sequence_of spells.items (first_place start) spells.last refl spells.cut spells.no_block in
    let P : List Item → Type 0 = λ is. AreCut is (first_place start) spells.last in
    record {
      start = start;
      sequence = whole.0;
      last = spells.last;
      after = spells.after;
      locals = (locals_decides (beginning bytes)).found locals start read;
      cut = subst P whole.2 spells.cut;
      no_block = spells.no_block;
      closed = spells.closed;
      whole = spells.whole;
      nested = whole.1;
      laid_out = spells.laid_out ∙ flat_of spells.items whole.0 whole.2;
    }

pub locals_refused
    : (bytes : List ℕ) (fault : CodeFault) → IsFaultOf fault (locals_from (beginning bytes)) → IsAmong fault (RefusesBody bytes)
locals_refused bytes (Bytes fault) e = inl ((locals_decides (beginning bytes)).refused fault e)
locals_refused bytes NoMemory e = tt

pub operators_refused
    : (bytes : List ℕ) (start : Input) (locals : List ValType) (fault : CodeFault) → locals_from (beginning bytes) ≡ Ok (locals, start)
    → IsAmong fault (RefusesOperators start) → IsAmong fault (RefusesBody bytes)
operators_refused bytes start locals (Bytes fault) read refuses =
    inr record {
      all = locals;
      start = start;
      items = refuses.items;
      here = refuses.here;
      locals = (locals_decides (beginning bytes)).found locals start read;
      cut = refuses.cut;
      refused = refuses.refused;
    }
operators_refused bytes start locals NoMemory read refuses = tt

-- a refusal has its place within the bytes, by the law

pub place_given
    : (bytes : List ℕ) (result : Result Body CodeFault) → IfErr result (λ fault. IsAmong fault (RefusesBody bytes))
    → IfErr result (λ fault. IsAmong fault (λ f. f.place ≤ length bytes))
place_given bytes (Ok read) refused = tt
place_given bytes (Err (Bytes fault)) refused = body_placed bytes fault refused
place_given bytes (Err NoMemory) refused = tt

-- both ways from one, by the laws

pub value_given
    : (bytes : List ℕ) (result : Result Body CodeFault) → IfOk result (λ body. SpellsBody bytes body)
    → IfErr result (λ fault. IsAmong fault (RefusesBody bytes)) → (body : Body) → SpellsBody bytes body → GivesValue result body
value_given bytes (Ok read) found refused body spells = one_body bytes read body found spells
value_given bytes (Err (Bytes fault)) found refused body spells = body_or_fault bytes body fault spells refused
value_given bytes (Err NoMemory) found refused body spells = tt

pub fault_given
    : (bytes : List ℕ) (result : Result Body CodeFault) → IfOk result (λ body. SpellsBody bytes body)
    → IfErr result (λ fault. IsAmong fault (RefusesBody bytes)) → (fault : Fault) → RefusesBody bytes fault → GivesFault result fault
fault_given bytes (Ok read) found refused fault refuses = body_or_fault bytes read fault found refuses
fault_given bytes (Err (Bytes other)) found refused fault refuses = one_refusal bytes other fault refused refuses
fault_given bytes (Err NoMemory) found refused fault refuses = tt

-- The cursor over all bytes.

pub begun
    : (bytes : List ℕ) (cursor : Input) (len : ℕ) → cursor.at ≡ 0 → cursor.left ≡ take (len - 0) (drop 0 bytes) → cursor.cut ≡ CutShort → length bytes ≤ len
    → cursor ≡ beginning bytes
begun bytes cursor len at left cut all =
    let whole : take (len - 0) bytes ≡ bytes = take_all (len - 0) bytes (omega arith) in
    same_input cursor (beginning bytes) at (left ∙ whole) cut
