-- Checks in order, of which the first that fails is told.
use Rattle.std.specs.Prelude.{ℕ, Bool, List, [], ◌∷◌, ◌++◌, length, if◌then◌else◌, Option, Some, None, Result, Ok, Err}
use Rattle.wasm_meaning.specs.declared.violations.Rule.{Rule}
use Rattle.wasm_meaning.specs.declared.violations.Broken.{Broken}
use Rattle.wasm_meaning.specs.ValidityRules.{rule_number}

-- a step, and behind it the rest, unless it fails
abbrev pub go_on : {A B E : Type 0} → Result A E → (A → Result B E) → Result B E
go_on (Ok x) rest = rest x
go_on (Err e) rest = Err e

-- a check of a module or of its parts: it passes, or tells the rule that is broken first
abbrev pub Check : Type 0
Check = Result (Unit {0}) Broken

abbrev pub in_order : List Check → Check
in_order [] = Ok tt
in_order (check ∷ checks) = go_on check (λ passed. in_order checks)

-- the items of a list, one after another; a check sees those before its item
abbrev pub each_behind : {A : Type 0} → (List A → A → Check) → List A → List A → Check
each_behind check before [] = Ok tt
each_behind check before (x ∷ xs) = go_on (check before x) (λ passed. each_behind check (before ++ x ∷ []) xs)

abbrev pub each : {A : Type 0} → (List A → A → Check) → List A → Check
each check items = each_behind check [] items

-- the first of these rules whose breach is there
abbrev pub first_rule : List (Bool × Rule) → Option Rule
first_rule [] = None
first_rule (c ∷ cs) = if c.0 then Some c.1 else first_rule cs

-- a rule is broken by an item of a list, which stands outside of bodies
abbrev pub broken_at : (item : ℕ) → Option Rule → Check
broken_at item None = Ok tt
broken_at item (Some rule) = Err (record { number = rule_number rule; function = None; item = item })

-- the first item of a list that breaks a rule, with its index
abbrev pub each_item : {A : Type 0} → (List A → A → Option Rule) → List A → Check
each_item broken items = each (λ before x. broken_at (length before) (broken before x)) items
