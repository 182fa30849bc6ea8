-- Steps that go on, or stop at the refusal that comes first.
use Rattle.std.specs.Prelude.{Bool, List, [], ◌∷◌, Option, Some, None, Result, Ok, Err, if◌then◌else◌}
use Rattle.serve_config.specs.declared.refusals.Refusal.{Refusal}

-- a step, and behind it the rest, unless it is refused
abbrev pub go_on : {A B : Type 0} → Result A Refusal → (A → Result B Refusal) → Result B Refusal
go_on (Ok x) rest = rest x
go_on (Err refusal) rest = Err refusal

-- what is there, or the refusal where nothing is
abbrev pub or_refuse : {A : Type 0} → Refusal → Option A → Result A Refusal
or_refuse refusal None = Err refusal
or_refuse refusal (Some x) = Ok x

-- the first of these refusals whose cause is there
abbrev pub first_refusal : List (Bool × Refusal) → Option Refusal
first_refusal [] = None
first_refusal (c ∷ cs) = if c.0 then Some c.1 else first_refusal cs
