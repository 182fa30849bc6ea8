-- Which function of the host the next operator calls, if it calls one.
use Rattle.std.specs.Prelude.{◌≡◌, ℕ, ◌-◌, Bool, true, false, if◌then◌else◌, List, drop, Option, Some, None, slice_get}
use Rattle.wasm_ops.specs.declared.host_calls.HostCall.{HostCall}
use Rattle.wasm_ops.specs.declared.host_calls.HostName.{HostName}
use Rattle.wasm_ops.specs.declared.operators.Op.{Op}
use Rattle.wasm_ops.specs.declared.operators.Op.TheVariants.{Call, CallIndirect}
use Rattle.wasm_meaning.specs.Bytes.{zeros}
use Rattle.wasm_meaning.specs.Programs.{Program}
use Rattle.wasm_store.specs.View.{View}
use Rattle.wasm_states.specs.Codes.{op_at}
use Rattle.wasm_states.specs.HostCalls.{arguments_of}
use Rattle.wasm_instance.specs.Callees.{called, is_of_type}
use Rattle.wasm_instance.specs.declared.callees.Callee.{Callee}
use Rattle.wasm_instance.specs.declared.callees.Callee.TheVariants.{Host, Defined}
use Rattle.wasm_step.specs.declared.answers.Step.{Step}
use Rattle.wasm_step.specs.declared.answers.Step.TheVariants as step

abbrev pub host_of : Option Callee → Option HostName
host_of None = None
host_of (Some (Host name)) = Some name
host_of (Some (Defined body shape)) = None

-- through an element of the table: only where there is a function, and of this type
abbrev pub host_through : Program → (type : ℕ) → Option (Option ℕ) → Option HostName
host_through p type None = None
host_through p type (Some None) = None
host_through p type (Some (Some index)) = if is_of_type p index type then host_of (called p index) else None

-- the element at the place that lies on top of the cells
abbrev pub element_on_top : (table : List (Option ℕ)) → Option ℕ → Option (Option ℕ)
element_on_top table None = None
element_on_top table (Some place) = slice_get table place

abbrev pub asked_by : Program → View → Option Op → Option HostName
asked_by p v None = None
asked_by p v (Some (Call index)) = host_of (called p index)
asked_by p v (Some (CallIndirect type)) = host_through p type (element_on_top v.table (slice_get v.cells 0))
asked_by p v (Some o) = None

abbrev pub host_next : Program → View → Option HostName
host_next p v = asked_by p v (op_at p v)

-- the operator calls through the table
abbrev pub goes_through_table : Option Op → Bool
goes_through_table (Some (CallIndirect type)) = true
goes_through_table o = false

-- the call is the one that the next operator makes: of this function, by its index or through the table; arguments that the function has not are 0
pub record IsNextCall (p : Program) (v : View) (call : HostCall) : Type 0 where
  pub name_is : host_next p v ≡ Some call.name
  pub indirect_is : call.indirect ≡ goes_through_table (op_at p v)
  pub others : drop (arguments_of call) call.args ≡ zeros (4 - arguments_of call)

-- a call of the host is told, and never answered by want of units
abbrev pub Asking : Program → View → Step → Type 0
Asking p v (step.Host call) = IsNextCall p v call
Asking p v step.Short = host_next p v ≡ None
Asking p v answer = Unit {0}
