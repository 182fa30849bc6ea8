-- What the bytes spell is what is made of them, and a program has the pages that it was given.
use Rattle.std.proofs.Common.{rules, sym, subst}
use Rattle.module_files.specs.Made.{IsMade}
use Rattle.module_files.proofs.Programs.{made_of_spelt, made_of_refused, have_pages}
use Rattle.module_files.proofs.making.program_of.Goals as goal

pub returns-in-Ok-clause-made : goal.returns-in-Ok-clause-made
returns-in-Ok-clause-made c = subst (λ due. IsMade c.of_module.result due) (sym (made_of_spelt c.args.pages c.args.bytes.now c.in-Ok.parts c.in-Ok.ensures.found)) c.of_module.ensures

pub returns-in-Ok-clause-pages : goal.returns-in-Ok-clause-pages
returns-in-Ok-clause-pages c =
    have_pages c.args.pages c.args.bytes.now c.of_module.result
    (subst (λ due. IsMade c.of_module.result due) (sym (made_of_spelt c.args.pages c.args.bytes.now c.in-Ok.parts c.in-Ok.ensures.found)) c.of_module.ensures)

pub returns-in-Err-Bytes-clause-made : goal.returns-in-Err-Bytes-clause-made
returns-in-Err-Bytes-clause-made c = rw c.in-Err-Bytes.fault-is (made_of_refused c.args.pages c.args.bytes.now c.in-Err-Bytes.fault (search rules))
