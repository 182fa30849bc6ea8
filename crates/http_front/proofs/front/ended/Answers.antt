-- In each state nothing is due, so the end gives one refusal at most.
use Rattle.std.proofs.lemmas.Result.{IfOk-weaker}
use Rattle.http_front.specs.declared.states.State.TheVariants as state
use Rattle.http_front.proofs.FrontFacts.{state_ends}
use Rattle.http_front.proofs.front.ended.Goals as goal

pub returns-in-Reading-clause-ending : goal.returns-in-Reading-clause-ending
returns-in-Reading-clause-ending c =
    IfOk-weaker c.ended_head.result _ _ (λ items given. state_ends (state.Reading c.in-Reading.held) _ given) c.ended_head.ensures

pub returns-in-Gathering-clause-ending : goal.returns-in-Gathering-clause-ending
returns-in-Gathering-clause-ending c =
    IfOk-weaker c.ended_body.result _ _ (λ items given. state_ends (state.Gathering c.in-Gathering.body) _ given) c.ended_body.ensures
