use Rattle.serve_config.specs.Loading.{loaded}
use Rattle.serve_config.specs.Routing.{all_routes}
use Rattle.generated_load.specs.Configuration.{soak_configuration}
use Rattle.generated_load.specs.Modules.{soak_files}
use Rattle.commands.proofs.SoakLaws.{all_are_loaded, answered, complete, too_many}
use Rattle.commands.proofs.SoakWords.{soak_few}
use Rattle.commands.proofs.soak_laws.soak_endings.Goals as goal

pub returns-clause-loads : goal.returns-clause-loads
returns-clause-loads c = all_are_loaded (loaded soak_files 0 (all_routes soak_configuration.tenants)) c.load_is_whole.ensures.made

pub returns-clause-complete : goal.returns-clause-complete
returns-clause-complete c = complete

pub returns-clause-too_many : goal.returns-clause-too_many
returns-clause-too_many c = too_many

pub returns-clause-answered : goal.returns-clause-answered
returns-clause-answered c = answered

pub returns-clause-always : goal.returns-clause-always
returns-clause-always c = λ words files s is. complete words files s is (c.load_has_its_requests.ensures.few s.start s.count (soak_few words s is))
