-- The parts of a module are read as their syntaxes have them.
use Rattle.std.proofs.Common.{◌≡◌, ℕ, suc, zero, Bool, true, false, List, Option, Some, None, Ok, Err, refl, ◌∙◌, arith}
use Rattle.wasm_ops.specs.declared.faults.Fault.{Fault}
use Rattle.wasm_ops.specs.declared.faults.Refusal.TheVariants.{BadType, BadKind, BadLimits, BadConstant}
use Rattle.wasm_ops.specs.declared.numbers.Sign.TheVariants.{Signed}
use Rattle.wasm_ops.specs.declared.types.ValType.{ValType}
use Rattle.wasm_ops.specs.declared.types.ValType.TheVariants.{I32, I64}
use Rattle.wasm_ops.specs.Input.{Input, byte_from}
use Rattle.wasm_ops.specs.Limits.{most_elements, most_parameters, most_results}
use Rattle.wasm_ops.specs.Refusals.{fault_at}
use Rattle.wasm_ops.specs.NameInput.{ReadsText, RefusesName, text_from}
use Rattle.wasm_ops.proofs.NameLaws.{text_taken}
use Rattle.wasm_code.specs.Reading.{Read, ReadsByte, LacksByte}
use Rattle.wasm_code.specs.Types.{type_of, no_type, typed}
use Rattle.wasm_code.proofs.Decisions.{Decides, read_same, fault_same, and_then_decides, byte_decides}
use Rattle.wasm_reader.specs.Syntax.{or_fault}
use Rattle.wasm_reader.specs.Parts.{this, tag, name, value_type, flag_of, mutability, greatest, bounds, limits, table, memory, constant_of, no_constant, constant_bits, as_constant, constant, result_type, as_function_type, function_type}
use Rattle.wasm_reader.specs.Syntax.{Syntax}
use Rattle.wasm_reader.proofs.SyntaxLaws.{IsDecidedBy, byte_decided, integer_decided, number_decided, pure_decided, map_decided, known_decides, checked_decided, ◌⨾⨾◌}
use Rattle.wasm_reader.proofs.ItemLaws.{limited_decided, vector_within_decided}

pub tag_decided : (wanted : ℕ) → IsDecidedBy (tag wanted)
tag_decided wanted = checked_decided (this wanted) (or_fault BadType) byte_decided

-- Names: what the cursor's laws say of their texts, both ways.

text_only
    : (before : Input) (text : List ℕ) (after : Input) (read : Read (List ℕ)) → text_from before ≡ read → ReadsText before text after
    → text_from before ≡ Ok (text, after)
text_only before text after (Ok read) e reads =
    let same = (text_taken (Ok read.0) before read.1 e).only text after reads in
    let texts = same.0 in
    let equal : read.0 ≡ text = cc in
    e ∙ read_same read.0 text read.1 after equal same.1
text_only before text after (Err fault) e reads =
    let same = ((text_taken (Err fault) before before (e, refl)).only text after reads).0 in
    let bad : ⊥ = cc in absurd bad

text_fails
    : (before : Input) (fault : Fault) (read : Read (List ℕ)) → text_from before ≡ read → RefusesName before fault → text_from before ≡ Err fault
text_fails before fault (Ok read) e refuses =
    let same = (text_taken (Ok read.0) before read.1 e).only_refused fault refuses in
    let bad : ⊥ = cc in absurd bad
text_fails before fault (Err other) e refuses =
    let same = (text_taken (Err other) before before (e, refl)).only_refused fault refuses in
    let equal : other ≡ fault = cc in
    e ∙ fault_same other fault equal

pub name_decided : IsDecidedBy name
name_decided =
    record {
      decides = λ before. record {
        found = λ text after e. (text_taken (Ok text) before after e).found;
        only = λ text after reads. text_only before text after (text_from before) refl reads;
        refused = λ fault e. (text_taken (Err fault) before before (e, refl)).refused;
        only_refused = λ fault refuses. text_fails before fault (text_from before) refl refuses;
      };
    }

-- Types.

typed_decides
    : (at byte : ℕ) (of : Option ValType) (there : Input)
    → Decides ValType (typed at byte of there) (λ x after. (of ≡ Some x) × (after ≡ there)) (λ fault. (of ≡ None) × (fault ≡ fault_at (no_type byte) at))
typed_decides at byte (Some y) there = known_decides (Some y) (fault_at (no_type byte) at) there
typed_decides at byte None there = known_decides None (fault_at (no_type byte) at) there

pub value_type_decided : IsDecidedBy value_type
value_type_decided =
    record {
      decides = λ before.
          and_then_decides (byte_from before) (λ byte after. typed before.at byte (type_of byte) after)
          (ReadsByte before) (LacksByte before)
          (λ byte there x after. (type_of byte ≡ Some x) × (after ≡ there))
          (λ byte there fault. (type_of byte ≡ None) × (fault ≡ fault_at (no_type byte) before.at))
          (byte_decides before) (λ byte there reads. typed_decides before.at byte (type_of byte) there);
    }

pub mutability_decided : IsDecidedBy mutability
mutability_decided = checked_decided flag_of (or_fault BadKind) byte_decided

-- Limits.

greatest_decided : (has_most : Bool) → IsDecidedBy (greatest has_most)
greatest_decided false = pure_decided None
greatest_decided true = map_decided (λ most. Some most) number_decided

pub limits_decided : {least_size : Syntax ℕ} → IsDecidedBy least_size → IsDecidedBy (limits least_size)
limits_decided least_decided =
    checked_decided flag_of (or_fault BadLimits) byte_decided ⨾⨾ λ has_most. least_decided ⨾⨾ λ least. map_decided (bounds least) (greatest_decided has_most)

pub table_decided : IsDecidedBy table
table_decided = tag_decided 0x70 ⨾⨾ λ kind. limits_decided (limited_decided 0 most_elements)

pub memory_decided : IsDecidedBy memory
memory_decided = limits_decided number_decided

-- Constants.

bits_decided : (value : ValType) → IsDecidedBy (constant_bits value)
bits_decided I32 = integer_decided Signed 32 (omega arith)
bits_decided I64 = integer_decided Signed 64 (omega arith)

pub constant_decided : IsDecidedBy constant
constant_decided =
    checked_decided constant_of (λ at b. or_fault (no_constant b) at b) byte_decided ⨾⨾ λ value. bits_decided value ⨾⨾ λ bits.
    checked_decided (this 0x0B) (or_fault BadConstant) byte_decided ⨾⨾ λ end. pure_decided (as_constant value bits)

-- Function types.

result_decided : (count : ℕ) → IsDecidedBy (result_type count)
result_decided zero = pure_decided None
result_decided (suc count) = map_decided (λ value. Some value) value_type_decided

pub function_type_decided : IsDecidedBy function_type
function_type_decided =
    tag_decided 0x60 ⨾⨾ λ form. vector_within_decided 0 most_parameters value_type_decided ⨾⨾ λ params. limited_decided 0 most_results ⨾⨾ λ count.
    map_decided (as_function_type params) (result_decided count)
