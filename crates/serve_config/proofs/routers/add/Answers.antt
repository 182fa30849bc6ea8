-- The path is read as it stands, and no row conflicts with it.
use Rattle.serve_config.proofs.Inserting.{inserted, only_memory}
use Rattle.serve_config.proofs.routers.add.Goals as goal

pub no_memory-requires : goal.no_memory-requires
no_memory-requires c = only_memory c.args.path.now c.args.number c.args.router.now c.insert.new.self c.in-Err.error c.requires.path c.requires.another (rw c.in-Err.is at c.insert.ensures)

pub returns-in-Ok : goal.returns-in-Ok
returns-in-Ok c = inserted c.args.path.now c.args.number c.args.router.now c.insert.new.self tt c.requires.path (rw c.in-Ok.is at c.insert.ensures)
