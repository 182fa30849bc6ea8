-- Calls of `fd_read` and `fd_write`: what their checks find, and what is known while their arrays of iovecs are walked.
use Rattle.std.specs.Prelude.{◌≡◌, ℕ, ◌+◌, ◌*◌, ◌^◌, ◌≤◌, nat_le, Bool, true, false, ◌&&◌, ◌||◌, List, [], ◌∷◌, Option, Some, None, Result, Ok, Err}
use Rattle.wasm_meaning.specs.HostCalls.{Buffer, buffer_bytes, room_of, Transfer, listed, reaches, overflows, write_error}
use Rattle.wasi_calls.specs.declared.iovecs.Iovec.{Iovec}
use Rattle.wasi_calls.specs.declared.iovecs.Survey.{Survey}
use Rattle.wasi_calls.specs.declared.transfers.StreamCall.{StreamCall}

-- an iovec and a call, as the definitions have them
abbrev pub buffer_of : Iovec → Buffer
buffer_of iovec = record { at = iovec.at; count = iovec.count }

abbrev pub transfer_for : StreamCall → Transfer
transfer_for call = record { descriptor = call.descriptor; buffers = call.iovecs; count = call.count; place = call.place }

-- a buffer has no byte of the array of iovecs
abbrev pub lies_apart : Transfer → Buffer → Bool
lies_apart call buffer = nat_le (buffer.at + buffer.count) call.buffers || nat_le (call.buffers + buffer_bytes * call.count) buffer.at

abbrev pub all_lie_apart : Transfer → List Buffer → Bool
all_lie_apart call [] = true
all_lie_apart call (buffer ∷ buffers) = lies_apart call buffer && all_lie_apart call buffers

-- all is within the memory, and this is known of the buffers
pub record Surveyed (memory : List ℕ) (call : Transfer) (survey : Survey) : Type 0 where
  pub within : reaches memory call ≡ true
  pub small : survey.room ≤ 1024 * 2 ^ 32
  pub room_is : survey.room ≡ room_of (listed memory call)
  pub apart_is : survey.apart ≡ true → all_lie_apart call (listed memory call) ≡ true

-- the survey of the call, or something leaves the memory
abbrev pub IsSurvey : (memory : List ℕ) → Transfer → Option Survey → Type 0
IsSurvey memory call (Some survey) = Surveyed memory call survey
IsSurvey memory call None = reaches memory call ≡ false

-- the first check that fails, or, where none does, what is known of the buffers
abbrev pub IsCheck : (memory : List ℕ) → Transfer → (error : Option ℕ) → Result Survey ℕ → Type 0
IsCheck memory call error (Ok survey) = (error ≡ None) × Surveyed memory call survey
IsCheck memory call error (Err errno) = error ≡ Some errno

-- likewise of a write, which has room for what the buffers have
abbrev pub IsWriteCheck : (memory reply : List ℕ) → Transfer → Result Survey ℕ → Type 0
IsWriteCheck memory reply call (Ok survey) =
    (write_error memory reply call ≡ None) × Surveyed memory call survey × (overflows reply call.descriptor survey.room ≡ false)
IsWriteCheck memory reply call (Err errno) = write_error memory reply call ≡ Some errno
