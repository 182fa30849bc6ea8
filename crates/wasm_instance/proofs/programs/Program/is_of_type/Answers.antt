-- Both have a type, or the function has none.
use Rattle.std.proofs.Common.{◌≡◌, List, Some, None, ap, sym, ◌∙◌}
use Rattle.std.specs.Prelude.{option_copied, slice_get}
use Rattle.wasm_ops.specs.declared.modules.Module.{Module}
use Rattle.wasm_ops.specs.declared.types.FuncType.{FuncType}
use Rattle.wasm_meaning.specs.Programs.{Program}
use Rattle.wasm_meaning.specs.ValiditySpaces.{function_type}
use Rattle.wasm_instance.specs.Callees.{is_of_type}
use Rattle.wasm_instance.proofs.CalleeTypes.{type_is_found, no_callee}
use Rattle.wasm_instance.proofs.programs.Program.is_of_type.Goals as goal

pub returns-in-Some-function_type : goal.returns-in-Some-function_type
returns-in-Some-function_type c =
    let m = c.self.inside.valid in
    let due : slice_get m.types c.args.type_index ≡ Some c.in-Some.wanted.now =
    ap (λ (x : Module). slice_get x.types c.args.type_index) (sym c.module.ensures.same) ∙ sym c.type_at.ensures ∙ ap option_copied c.in-Some.is in
    let known : function_type m c.args.index ≡ Some c.in-Some-function_type.function.now = sym c.function_type.ensures ∙ ap option_copied c.in-Some-function_type.is in
    type_is_found (record { linked = m; pages = c.self.inside.pages }) c.self.invariant.linked c.args.index c.args.type_index c.in-Some.wanted.now c.in-Some-function_type.function.now c.same.result due known c.same.ensures
    ∙ ap (λ (p : Program). is_of_type p c.args.index c.args.type_index) c.self.view_is

pub returns-in-None : goal.returns-in-None
returns-in-None c =
    let m = c.self.inside.valid in
    let due : slice_get m.types c.args.type_index ≡ Some c.in-Some.wanted.now =
    ap (λ (x : Module). slice_get x.types c.args.type_index) (sym c.module.ensures.same) ∙ sym c.type_at.ensures ∙ ap option_copied c.in-Some.is in
    let none : function_type m c.args.index ≡ None = sym c.function_type.ensures ∙ ap option_copied c.in-None.is in
    sym (no_callee (record { linked = m; pages = c.self.inside.pages }) c.self.invariant.linked c.args.index c.args.type_index c.in-Some.wanted.now due none)
    ∙ ap (λ (p : Program). is_of_type p c.args.index c.args.type_index) c.self.view_is
