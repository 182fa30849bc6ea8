-- What httparse found is the head, or there is none of so few lines.
use Rattle.std.proofs.Common.{map, ap, refl, arith}
use Rattle.httparse.specs.Spans.{header_bytes}
use Rattle.http_front.proofs.HeadFacts.{head_found, head_lacking, head_overflowing}
use Rattle.http_front.proofs.heads.parse.Goals as goal

pub returns-in_ok-opening-in-Ok-Complete : goal.returns-in_ok-opening-in-Ok-Complete
returns-in_ok-opening-in-Ok-Complete c =
    head_found c.args.text.now c.parse_request.new.headers c.in-Ok-Complete.head _ _ c.in_ok-opening-in-Ok-Complete.ensures
    (rw c.in-Ok-Complete.field-0-is at c.in-Ok-Complete.ensures.complete)
    (rw c.in-Ok-Complete.field-0-is at c.in-Ok-Complete.ensures.within)
    c.requires (omega (arith, c.parse_request.auto.headers))
    c.of.ensures c.of-in-Ok-Complete.ensures refl (ap (map (header_bytes c.args.text.now)) c.split_at.ensures.front)

pub returns-in-Ok-Partial : goal.returns-in-Ok-Partial
returns-in-Ok-Partial c = head_lacking c.args.text.now (rw c.in-Ok-Partial.field-0-is at c.in-Ok-Partial.ensures.partial)

pub returns-in-Err : goal.returns-in-Err
returns-in-Err c = head_overflowing c.args.text.now _ refl c.in-Err.ensures.no_room
