-- Calls of one tenant's meter among a visit's passes.
use Rattle.std.specs.Prelude.{◌≡◌, ◌≢◌, ◌⊎◌, ℕ, List, [], ◌∷◌, ◌++◌, slice_get}
use Rattle.recorded_runner.specs.Lookups.{of_member}
use Rattle.admission.specs.declared.meters.Admission.{Admission}
use Rattle.tenant_meters.specs.Histories.{call, empty_bucket, IsLegal, calls_by, GoesOn}
use Rattle.tenant_meters.specs.Metered.{PassView}
use Rattle.tenant_meters.specs.declared.callers.Call.{Call}
use Rattle.tenant_meters.specs.declared.callers.Terms.{Terms}

-- the visit's own calls of a tenant's meter, in order
abbrev pub mine_in : List PassView → (tenant : ℕ) → List Call
mine_in passes tenant = of_member (λ pass. pass.mine) [] passes tenant

-- the history of that meter's calls as far as the visit has seen it
abbrev pub seen_in : List PassView → (tenant : ℕ) → List Call
seen_in passes tenant = of_member (λ pass. pass.seen) [] passes tenant

-- what the visit knows of the meters of others stays
abbrev pub OthersStay : (tenant : ℕ) → (old new : List PassView) → Type 0
OthersStay tenant old new = (other : ℕ) → other ≢ tenant → slice_get new other ≡ slice_get old other

-- one call of a tenant's meter was made, with which the history that was seen then ends; the history is legal by the meter's terms, and has of the calls of one number just the visit's own
pub record MakesCall (given : Terms) (tenant : ℕ) (old new : List PassView) (c : Call) : Type 0 where
  pub between : List Call
  pub seen : seen_in new tenant ≡ (seen_in old tenant ++ between) ++ c ∷ []
  pub mine : mine_in new tenant ≡ mine_in old tenant ++ c ∷ []
  pub legal : IsLegal (empty_bucket given) (seen_in new tenant)
  pub own : calls_by c.by (seen_in new tenant) ≡ mine_in new tenant
  pub others : OthersStay tenant old new

-- one call was made with this question, and answered so
abbrev pub AsksMeter : Terms → (tenant : ℕ) → (old new : List PassView) → (moment estimate : ℕ) → Admission → Type 0
AsksMeter given tenant old new moment estimate answer = (by : ℕ) × MakesCall given tenant old new (call by moment estimate answer)

-- these calls were made, one after another, and no others
abbrev pub MakesCalls : Terms → (tenant : ℕ) → (old new : List PassView) → List Call → Type 0
MakesCalls given tenant old new [] = new ≡ old
MakesCalls given tenant old new (c ∷ calls) = (between : List PassView) × MakesCall given tenant old between c × MakesCalls given tenant between new calls

-- the history that was seen is legal, has of one number the visit's own calls and no others, and ends with the latest of them
pub record EndsWithItsLatest (given : Terms) (seen mine : List Call) : Type 0 where
  pub legal : IsLegal (empty_bucket given) seen
  pub by : ℕ
  pub own : calls_by by seen ≡ mine
  pub latest : Call
  pub seen_before : List Call
  pub mine_before : List Call
  pub seen_ends : seen ≡ seen_before ++ latest ∷ []
  pub mine_ends : mine ≡ mine_before ++ latest ∷ []

-- the history goes on from what was seen; where a call was made it ends with the latest
pub record IsOneHistory (given : Terms) (tenant : ℕ) (old new : List PassView) : Type 0 where
  pub onward : GoesOn (seen_in old tenant) (seen_in new tenant)
  pub latest : (new ≡ old) ⊎ EndsWithItsLatest given (seen_in new tenant) (mine_in new tenant)
