use Rattle.std.proofs.Common.{List, [], ◌∷◌, ◌++◌, sym, subst, ◌∙◌, arith}
use Rattle.std.proofs.lemmas.Iterator.Adapters.{YieldsList-from_vec}
use Rattle.std.proofs.lemmas.Iterator.Consumers.{YieldsList-turn}
use Rattle.std.proofs.lemmas.Slice.Zip.{AllZip-long}
use Rattle.std.specs.List.{AllZip}
use Rattle.sandbox_states.specs.Views.{AnswerView}
use Rattle.workers.proofs.Zips.{zip_push}
use Rattle.workers.specs.Tasks.{IsFinishOf}
use Rattle.workers.proofs.leftovers.finish_all.Goals as goal

pub push_reserved-requires : goal.push_reserved-requires
push_reserved-requires g c =
    let turn = YieldsList-turn (YieldsList-from_vec {s = c.into_iter-task-iterator.result} c.args.tasks.items c.into_iter-task-iterator.ensures.into_iter_gives.0 (c.into_iter-task-iterator.ensures.into_iter_gives.1 ∙ c.args.tasks.ok.0))
    c.loop-task.yielded c.loop-task.task-iterator c.loop-task.yielded_by c.next.result c.next.new.self c.in-Some.task c.in-Some.is c.next.ensures.steps in
    omega (arith, turn.0, c.requires.room, c.loop-task.invariant.room, AllZip-long (IsFinishOf c.args.settings.now.quantum) c.loop-task.yielded c.loop-task.answers.items c.loop-task.invariant.done, c.loop-task.answers.ok.0)

pub loop-task-preserved : goal.loop-task-preserved
loop-task-preserved g c = record {
  can_next = tt;
  is_finite = tt;
  pages = c.finish-answer.ensures.pages ∙ c.loop-task.invariant.pages;
  room = c.push_reserved.ensures.capacity ∙ c.loop-task.invariant.room;
  done = subst (λ (answers : List AnswerView). AllZip (IsFinishOf c.args.settings.now.quantum) (c.loop-task.yielded ++ c.in-Some.task ∷ []) answers) (sym c.push_reserved.ensures.items)
      (zip_push (IsFinishOf c.args.settings.now.quantum) c.loop-task.yielded c.loop-task.answers.items c.in-Some.task c.finish-answer.result.0 c.loop-task.invariant.done c.finish-answer.ensures.answer);
}
