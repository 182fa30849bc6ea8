-- The head, then the body.
use Rattle.http_front.proofs.ReplyLemmas.{laid_out}
use Rattle.http_front.proofs.reply.reply_text.Goals as goal

pub returns : goal.returns
returns c =
    rw (
      c.in_ok-push_body.ensures,
      c.in_ok-push_head.ensures,
      c.in_ok-text.ensures.items,
    ) (laid_out _ _ _ _ _ _ _ _ c.new-reply.ensures.status c.new-reply.ensures.content_type c.new-reply.ensures.body)
