use Rattle.outside.proofs.adapters.FileLibraryLibrary.read.Goals as goal

-- the file's reading gives what it gives, and has its cause, whatever the name

pub returns-in-Ok-clause-given : goal.returns-in-Ok-clause-given
returns-in-Ok-clause-given g c = c.read_file.ensures.given c.args.name.now

pub returns-in-Ok-clause-cause : goal.returns-in-Ok-clause-cause
returns-in-Ok-clause-cause g c = c.read_file.ensures.cause c.args.name.now
