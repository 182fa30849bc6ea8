-- What is due on the output is brief: of a refusal nothing, and of a replay what was played.
use Rattle.std.proofs.Common.{◌≡◌, ℕ, ◌^◌, ◌<◌, List, length, ap, arith}
use Rattle.commands.specs.Endings.{Done, Due, IsBrief, Refuses, due}
use Rattle.commands.specs.declared.status.Status.{Status}

pub brief_refusal : (planned : Due) (s : Status) (words : List ℕ) → planned ≡ due (Refuses s words) → IsBrief planned
brief_refusal planned s words is = omega (arith, ap (λ (d : Due). length d.text) is)

pub brief_text : (planned : Due) (text note : List ℕ) → planned ≡ due (Done text note) → length text < 2 ^ 32 → IsBrief planned
brief_text planned text note is few = omega (arith, few, ap (λ (d : Due). length d.text) is)

pub brief_as : (planned : Due) (text : List ℕ) → planned.text ≡ text → length text < 2 ^ 32 → IsBrief planned
brief_as planned text is few = omega (arith, few, ap (λ (bytes : List ℕ). length bytes) is)
