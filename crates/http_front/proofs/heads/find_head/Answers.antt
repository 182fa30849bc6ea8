-- No head ends without a line feed.
use Rattle.std.proofs.Common.{sym, ◌∙◌}
use Rattle.http_items.proofs.FrontLaws.{no_head_without_feed}
use Rattle.http_front.proofs.heads.find_head.Goals as goal

pub returns-in_ok-unparsed : goal.returns-in_ok-unparsed
returns-in_ok-unparsed c =
    (no_head_without_feed c.args.held.items c.args.taken.now c.requires.missing (sym c.has_line_feed.ensures ∙ c.if-has_line_feed.false), c.in_ok-unparsed.ensures)
