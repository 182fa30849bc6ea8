use Rattle.generated_load.proofs.Generation.{stepped}
use Rattle.generated_load.proofs.generator.Generator.draw.Goals as goal

pub returns-clause-steps : goal.returns-clause-steps
returns-clause-steps c = stepped c.args.self.now.state
