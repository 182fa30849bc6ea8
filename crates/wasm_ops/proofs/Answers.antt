-- What a call on a cursor owes, on both sides, and what follows from it of the definitions.
use Rattle.std.proofs.Common.{◌≡◌, ◌⊎◌, inl, inr, ◌<◌, length, Result, Ok, Err, IfOk, IfErr, OnOk, ap, sym, ◌∙◌}
use Rattle.std.specs.Result.{result_map_both}
use Rattle.wasm_ops.specs.declared.faults.Fault.{Fault}
use Rattle.wasm_ops.specs.Input.{Input, IsDecided}

-- what is read is by the grammar, and what the grammar has is read; what is refused has a fault of the refusals, and each of them is answered
pub record IsAnswer (A : Type 0) (Reads : A → Input → Type 0) (Refuses : Fault → Type 0) (result : Result A Fault) (before after : Input) : Type 0 where
  pub found : IfOk result (λ x. Reads x after)
  pub shorter : OnOk result (length after.left < length before.left)
  pub only : (x : A) (there : Input) → Reads x there → (result ≡ Ok x) × (after ≡ there)
  pub refused : IfErr result Refuses
  pub only_refused : (fault : Fault) → Refuses fault → result ≡ Err fault

same_value : {A : Type 0} (result : Result A Fault) (x y : A) → result ≡ Ok x → result ≡ Ok y → x ≡ y
same_value result x y to_x to_y = cc

same_fault : {A : Type 0} (result : Result A Fault) (f g : Fault) → result ≡ Err f → result ≡ Err g → f ≡ g
same_fault result f g to_f to_g = cc

not_both : {A : Type 0} (result : Result A Fault) (x : A) (fault : Fault) → result ≡ Ok x → result ≡ Err fault → ⊥
not_both result x fault to_x to_fault = cc

one_holds
    : (A : Type 0) (Reads : A → Input → Type 0) (Refuses : Fault → Type 0) (result : Result A Fault) (before after : Input)
    → IsAnswer A Reads Refuses result before after → ((x : A) × (there : Input) × Reads x there) ⊎ ((fault : Fault) × Refuses fault)
one_holds A Reads Refuses (Ok x) before after answer = inl (x, after, answer.found)
one_holds A Reads Refuses (Err fault) before after answer = inr (fault, answer.refused)

pub decided
    : (A : Type 0) (Reads : A → Input → Type 0) (Refuses : Fault → Type 0) (result : Result A Fault) (before after : Input)
    → IsAnswer A Reads Refuses result before after → IsDecided A Reads Refuses
decided A Reads Refuses result before after answer =
    record {
      one_holds = one_holds A Reads Refuses result before after answer;
      never_both = λ x there fault reads refuses. not_both result x fault (answer.only x there reads).0 (answer.only_refused fault refuses);
      one_value = λ x y there here reads also.
          let first = answer.only x there reads in
          let second = answer.only y here also in
          (same_value result x y first.0 second.0, sym first.1 ∙ second.1);
      one_fault = λ f g refuses also. same_fault result f g (answer.only_refused f refuses) (answer.only_refused g also);
    }

-- What holds of an answer as it is seen holds of the answer.

abbrev pub Seen : {A B : Type 0} → (A → B) → Result A Fault → Result B Fault
Seen view result = result_map_both view (λ fault. fault) result

pub if_ok_seen : {A B : Type 0} (result : Result A Fault) (view : A → B) (P : B → Type 0) → IfOk (Seen view result) P → IfOk result (λ x. P (view x))
if_ok_seen (Ok x) view P holds = holds
if_ok_seen (Err fault) view P holds = tt

pub if_err_seen : {A B : Type 0} (result : Result A Fault) (view : A → B) (P : Fault → Type 0) → IfErr (Seen view result) P → IfErr result P
if_err_seen (Ok x) view P holds = tt
if_err_seen (Err fault) view P holds = holds

pub on_ok_seen : {A B : Type 0} (result : Result A Fault) (view : A → B) (P : Type 0) → OnOk (Seen view result) P → OnOk result P
on_ok_seen (Ok x) view P holds = holds
on_ok_seen (Err fault) view P holds = tt

pub err_seen : {A B : Type 0} (result : Result A Fault) (view : A → B) (fault : Fault) → Seen view result ≡ Err fault → result ≡ Err fault
err_seen (Ok x) view fault e = let bad : ⊥ = cc in absurd bad
err_seen {A} (Err other) view fault e = let same : other ≡ fault = cc in ap (λ (f : Fault). let result : Result A Fault = Err f in result) same
