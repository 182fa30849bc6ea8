use Rattle.std.proofs.Common.{inr, ap, ◌∙◌}
use Rattle.job_board.specs.declared.words.Word.{Word}
use Rattle.posted_jobs.proofs.Walks.{put_back}
use Rattle.posted_jobs.specs.Posting.{turns_in}
use Rattle.posted_jobs.proofs.rounds.claim_at.Goals as goal

pub put_waiting-requires-clause-job : goal.put_waiting-requires-clause-job
put_waiting-requires-clause-job c = (c.in-Got.ensures.stands, ap (λ (w : Word). w.turns) c.in-Got.ensures.told ∙ c.requires.unbegun c.in-Waiting.is)

pub returns-then-room-pages : goal.returns-then-room-pages
returns-then-room-pages c =
    let none = ap (λ (w : Word). w.turns) c.in-Got.ensures.told ∙ c.requires.unbegun c.in-Waiting.is in
    inr (_, c.in-Waiting.is, c.if-room-pages.true, put_back c.args.pass.now c.claim.new.pass c.put_waiting.new.pass c.args.place (turns_in c.in-Got.job) c.args.seen c.requires.free c.in-Got.ensures.holds c.put_waiting.ensures none)
