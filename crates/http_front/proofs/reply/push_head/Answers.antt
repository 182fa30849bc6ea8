-- The lines in the order in which they are pushed.
use Rattle.http_front.proofs.ReplyLemmas.{lined_up}
use Rattle.http_front.proofs.reply.push_head.Goals as goal

pub returns : goal.returns
returns c =
    rw (
      c.in_ok-extend_from_slice.ensures.items,
      c.in_ok-push_close_line.ensures,
      c.in_ok-push_header_line-2.ensures,
      c.in_ok-push_header_line.ensures,
      c.in_ok-push_allow_line.ensures,
      c.in_ok-push_status_line.ensures,
    ) (lined_up _ _ _ _ _ _ c.format.ensures.text)
