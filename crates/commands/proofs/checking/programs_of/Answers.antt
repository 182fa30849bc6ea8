-- The reads of the modules, and what they came to.
use Rattle.std.proofs.Common.{List, Vec, Err, ap, subst, ◌∙◌}
use Rattle.std.specs.declared.alloc.Global.{Global}
use Rattle.std.specs.declared.sync.Arc.{Arc}
use Rattle.wasm_meaning.specs.Programs.{Program}
use Rattle.serve_config.specs.Loaded.{IsLoaded, programs_in}
use Rattle.serve_config.specs.Loading.{LoadsAll}
use Rattle.serve_config.specs.Routing.{all_routes}
use Rattle.serve_config.specs.declared.load_faults.LoadFault.{LoadFault}
use Rattle.commands.proofs.CheckWalks.{all_fit, programs_lead, unfit_comes, unread_comes}
use Rattle.commands.specs.Endings.{due, not_read}
use Rattle.commands.proofs.checking.programs_of.Goals as goal

pub returns-in-Ok-clause-readies : goal.returns-in-Ok-clause-readies
returns-in-Ok-clause-readies g c = (
  λ next. programs_lead g.L.Library.gave c.args.config.now next c.args.lib.now c.load_programs.new.lib (programs_in c.in-Ok.programs.items) c.in-Ok.ensures.loaded,
  all_fit g.L.Library.gave 0 (all_routes c.args.config.now.tenants) c.args.lib.now c.load_programs.new.lib (programs_in c.in-Ok.programs.items) c.in-Ok.ensures.loaded,
)

pub returns-in_ok-not_read-in-Err-Read-clause-readies : goal.returns-in_ok-not_read-in-Err-Read-clause-readies
returns-in_ok-not_read-in-Err-Read-clause-readies g c =
    let came = subst
    (λ (f : LoadFault). IsLoaded {A = Vec (Arc Program Global) Global} {B = List Program} (λ shared. programs_in shared.items) (Err f)
    (LoadsAll g.L.Library.gave 0 (all_routes c.args.config.now.tenants) c.args.lib.now c.load_programs.new.lib))
    c.in-Err-Read.field-0-is c.in-Err-Read.ensures.loaded in
    λ next. unread_comes g.L.Library.gave c.args.config.now next c.args.lib.now c.load_programs.new.lib c.in-Err-Read.route c.route.result.now _ came c.route.ensures.is
    (c.in_ok-not_read-in-Err-Read.ensures ∙ ap (λ name. due (not_read name)) c.as_str-name.ensures)

pub returns-in_ok-ending-in-Err-Module-clause-readies : goal.returns-in_ok-ending-in-Err-Module-clause-readies
returns-in_ok-ending-in-Err-Module-clause-readies g c =
    let came = subst
    (λ (f : LoadFault). IsLoaded {A = Vec (Arc Program Global) Global} {B = List Program} (λ shared. programs_in shared.items) (Err f)
    (LoadsAll g.L.Library.gave 0 (all_routes c.args.config.now.tenants) c.args.lib.now c.load_programs.new.lib))
    c.in-Err-Module.field-0-is c.in-Err-Module.ensures.loaded in
    λ next. unfit_comes g.L.Library.gave c.args.config.now next c.args.lib.now c.load_programs.new.lib c.in-Err-Module.route c.in-Err-Module.number c.in-Err-Module.place _ came
    c.in_ok-ending-in-Err-Module.ensures
