use Rattle.std.proofs.Common.{ap}
use Rattle.wasm_meaning.specs.Requests.{verdict_of}
use Rattle.wasm_meaning.specs.State.{Run}
use Rattle.wasm_meaning.proofs.RequestLaws.{units_within, richer_run}
use Rattle.wasm_meaning.proofs.laws.requests_keep_their_verdict.Goals as goal

pub returns-clause-within : goal.returns-clause-within
returns-clause-within c = units_within

pub returns-clause-same_verdict : goal.returns-clause-same_verdict
returns-clause-same_verdict c = λ request more unspent. ap (λ (r : Run). verdict_of r) (richer_run request more unspent)

pub returns-clause-same_prices : goal.returns-clause-same_prices
returns-clause-same_prices c = λ request more unspent. ap (λ (r : Run). r.prices) (richer_run request more unspent)
