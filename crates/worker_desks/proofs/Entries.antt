-- An entry that is taken out of a queue, and what is left.
use Rattle.std.proofs.Common.{◌≡◌, ℕ, suc, ◌+◌, ◌<◌, ◌≤◌, List, [], ◌∷◌, ◌++◌, length, take, drop, slice_get, get_or, Some, sym, ap, subst, ◌∙◌, arith}
use Rattle.std.proofs.lemmas.List.Edits.{length-remove}
use Rattle.std.proofs.lemmas.List.Elements.{All-append, All-take, All-drop}
use Rattle.std.proofs.lemmas.Option.{slice_get_within, slice_get_cases}
use Rattle.std.specs.List.{All, remove}
use Rattle.run_queues.specs.Serving.{Takes}
use Rattle.run_queues.specs.declared.entries.Entry.{Entry}
use Rattle.run_queues.specs.declared.policies.Policy.{Policy}
use Rattle.worker_desks.specs.Parts.{Serves}

pub all-left : (P : Entry → Type 0) (policy : Policy) (before after : List Entry) (e : Entry) → Takes policy before after e → All P before → All P after
all-left P policy before after e takes each =
    subst (All P) (sym takes.others) (All-append P (take takes.at before) (drop (suc takes.at) before) (All-take P takes.at before each) (All-drop P (suc takes.at) before each))

pub one-less : (policy : Policy) (before after : List Entry) (e : Entry) → Takes policy before after e → length after + 1 ≡ length before
one-less policy before after e takes =
    ap (λ (n : ℕ). n + 1) (ap length takes.others) ∙ length-remove before takes.at (slice_get_within before takes.at e takes.is)

-- what is behind several
pub all-behind : (P : Entry → Type 0) (policy : Policy) (before : List Entry) (served : List Entry) (after : List Entry) → Serves policy before served after → All P before → All P after
all-behind P policy before [] after serves each = subst (All P) (sym serves) each
all-behind P policy before (e ∷ served) after serves each =
    all-behind P policy serves.0 served after serves.2 (all-left P policy before serves.0 e serves.1 each)

pub no-more : (policy : Policy) (before : List Entry) (served : List Entry) (after : List Entry) → Serves policy before served after → length after ≤ length before
no-more policy before [] after serves = omega (arith, ap length serves)
no-more policy before (e ∷ served) after serves =
    omega (arith, no-more policy serves.0 served after serves.2, one-less policy before serves.0 e serves.1)
