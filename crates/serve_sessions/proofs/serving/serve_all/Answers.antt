use Rattle.std.proofs.Common.{sym, ◌∙◌}
use Rattle.std.proofs.lemmas.List.{length-map}
use Rattle.std.specs.Arc.{arc_value}
use Rattle.serve_config.specs.Loaded.{programs_in}
use Rattle.serve_config.specs.Routing.{all_routes}
use Rattle.recorded_runner.proofs.RouteLaws.{as_many}
use Rattle.serve_sessions.proofs.serving.serve_all.Goals as goal

pub new-requires : goal.new-requires
new-requires g c = record { each = sym (length-map c.args.programs.items arc_value) ∙ as_many (all_routes c.args.config.tenants) (programs_in c.args.programs.items) c.requires.programs }
