use Rattle.std.proofs.Common.{◌≡◌, Some, IfSome, subst}
use Rattle.sandbox_states.specs.Views.{told}
use Rattle.wasm_meaning.specs.Requests as due
use Rattle.wasm_meaning.specs.Requests.{Request}
use Rattle.shop_desks.proofs.shops.Shop.answer_at.Goals as goal

pub returns-clause-verdict : goal.returns-clause-verdict
returns-clause-verdict g c = subst (λ (r : Request). IfSome c.awaited.result (λ given. due.verdict r ≡ Some (told given))) c.deref.ensures c.awaited.ensures.verdict
