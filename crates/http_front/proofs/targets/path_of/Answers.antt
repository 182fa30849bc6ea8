-- The path of visible bytes is text.
use Rattle.std.proofs.Common.{sym, ◌∙◌}
use Rattle.http_front.proofs.TargetFacts.{path_text}
use Rattle.http_front.proofs.targets.path_of.Goals as goal

pub text_of-requires : goal.text_of-requires
text_of-requires c = path_text c.args.target.now c.in-Some.path.now (sym c.in-Some.ensures) (sym c.is_visible.ensures ∙ c.if-is_visible.true)
