-- One program more, the fault of one file, or all programs.
use Rattle.std.proofs.Common.{◌∙◌, arith, Vec}
use Rattle.std.specs.Arc.{arc_value}
use Rattle.std.specs.declared.alloc.Global.{Global}
use Rattle.std.specs.declared.sync.Arc.{Arc}
use Rattle.wasm_meaning.specs.Programs.{Program}
use Rattle.serve_config.specs.Routing.{all_routes}
use Rattle.serve_config.specs.Loaded.{programs_in}
use Rattle.serve_config.proofs.Loadings.{onward_goes, onward_fails, onward_ends, programs_more, among}
use Rattle.serve_config.proofs.loading.load_programs.Goals as goal

pub returns-in-Err-clause-loaded : goal.returns-in-Err-clause-loaded
returns-in-Err-clause-loaded g c =
    onward_fails g.L.Library.gave (all_routes c.args.config.now.tenants) c.args.lib.now (λ (one : Arc Program Global). arc_value one) (λ (shared : Vec (Arc Program Global) Global). programs_in shared.items) c.loop-number.number c.route-route.result.now c.loop-number.lib c.load.new.lib (programs_in c.loop-number.programs.items) c.in-Err.fault c.route-route.ensures.is c.loop-number.invariant.onward c.in-Err.ensures.loaded

pub returns-in-Err-clause-known : goal.returns-in-Err-clause-known
returns-in-Err-clause-known g c =
    among (all_routes c.args.config.now.tenants) c.loop-number.number c.in-Err.fault (omega (arith, c.loop-number-test.true, c.route_count-number-end.ensures.counted)) c.in-Err.ensures.its

pub loop-number-preserved : goal.loop-number-preserved
loop-number-preserved g c =
    let next = onward_goes g.L.Library.gave (all_routes c.args.config.now.tenants) c.args.lib.now c.loop-number.number c.route-route.result.now c.loop-number.lib c.load.new.lib (programs_in c.loop-number.programs.items) (arc_value c.in-Ok.program) c.route-route.ensures.is c.loop-number.invariant.onward c.in-Ok.ensures.loaded in
    record {
      onward = rw (c.in_ok-push.ensures.items, programs_more c.loop-number.programs.items c.in-Ok.program) next;
      same = c.load.ensures.same ∙ c.loop-number.invariant.same;
      later = omega (arith, c.load.ensures.later, c.loop-number.invariant.later);
    }

pub returns-clause-loaded : goal.returns-clause-loaded
returns-clause-loaded g c =
    onward_ends g.L.Library.gave (all_routes c.args.config.now.tenants) c.args.lib.now c.loop-number.number c.loop-number.lib (programs_in c.loop-number.programs.items) (omega (arith, c.loop-number-test.false, c.route_count-number-end.ensures.counted)) c.loop-number.invariant.onward
