-- The functions of the host: what a call answers, what it costs, and all that it changes (WASI preview1: `fd_read`, `fd_write`, `proc_exit`; prices are this project's own).
use Rattle.std.specs.Prelude.{ℕ, ◌+◌, ◌*◌, ◌/◌, ◌^◌, ◌==◌, zero, suc, nat_lt, nat_le, Bool, true, not, ◌&&◌, ◌||◌, if◌then◌else◌, List, [], ◌∷◌, ◌++◌, length, take, drop, flat_map, slice_index, sum, map, Option, Some, None}
use Rattle.wasm_ops.specs.declared.host_calls.HostName.{HostName}
use Rattle.wasm_ops.specs.declared.host_calls.HostName.TheVariants.{FdRead, FdWrite, ProcExit}
use Rattle.wasm_ops.specs.declared.types.FuncType.{FuncType}
use Rattle.wasm_ops.specs.declared.types.ValType.TheVariants.{I32}
use Rattle.wasm_meaning.specs.Bytes.{number_of_bytes, bytes_of, lies_in, bytes_at, with_bytes}

-- what a function of the host takes and gives
abbrev pub host_type : HostName → FuncType
host_type FdRead = record { params = I32 ∷ I32 ∷ I32 ∷ I32 ∷ []; result = Some I32 }
host_type FdWrite = record { params = I32 ∷ I32 ∷ I32 ∷ I32 ∷ []; result = Some I32 }
host_type ProcExit = record { params = I32 ∷ []; result = None }

-- the bytes of the request, how many of them have been read, and what has been written for the reply
pub record Streams : Type 0 where
  pub body : List ℕ
  pub position : ℕ
  pub reply : List ℕ

-- the call comes back with an error number, 0 where it succeeded; or it ends the program with a code
pub data HostAnswer : Type 0 where
  Gives : (errno : ℕ) → HostAnswer
  Exits : (code : ℕ) → HostAnswer

-- what a call does
pub record HostEffect : Type 0 where
  pub answer : HostAnswer
  pub price : ℕ
  pub memory : List ℕ
  pub streams : Streams

-- Buffers.

-- an iovec: a range of the memory
pub record Buffer : Type 0 where
  pub at : ℕ
  pub count : ℕ

abbrev pub buffer_bytes : ℕ
buffer_bytes = 8

abbrev pub buffer_at : (memory : List ℕ) (at : ℕ) → Buffer
buffer_at memory at = record { at = number_of_bytes (bytes_at memory at 4); count = number_of_bytes (bytes_at memory (at + 4) 4) }

-- the array of so many buffers from a place on
abbrev pub buffers_at : (memory : List ℕ) (at count : ℕ) → List Buffer
buffers_at memory at zero = []
buffers_at memory at (suc count) = buffer_at memory at ∷ buffers_at memory (at + buffer_bytes) count

abbrev pub all_lie_in : (memory : List ℕ) → List Buffer → Bool
all_lie_in memory [] = true
all_lie_in memory (buffer ∷ buffers) = lies_in memory buffer.at buffer.count && all_lie_in memory buffers

-- how many bytes they have
abbrev pub room_of : List Buffer → ℕ
room_of buffers = sum (map (λ (buffer : Buffer). buffer.count) buffers)

-- the bytes of all buffers, in order
abbrev pub gathered : (memory : List ℕ) → List Buffer → List ℕ
gathered memory buffers = flat_map (λ (buffer : Buffer). bytes_at memory buffer.at buffer.count) buffers

-- bytes laid in the buffers in order, as many as fit
abbrev pub scattered : (memory : List ℕ) → List Buffer → (bytes : List ℕ) → List ℕ
scattered memory [] bytes = memory
scattered memory (buffer ∷ buffers) bytes = scattered (with_bytes memory buffer.at (take buffer.count bytes)) buffers (drop buffer.count bytes)

-- Limits and error numbers.

abbrev pub most_buffers : ℕ
most_buffers = 1024

abbrev pub most_reply_bytes : ℕ
most_reply_bytes = 65536

abbrev pub success : ℕ
success = 0

abbrev pub bad_file_descriptor : ℕ
bad_file_descriptor = 8

abbrev pub fault : ℕ
fault = 21

abbrev pub too_large : ℕ
too_large = 22

abbrev pub invalid_argument : ℕ
invalid_argument = 28

-- The calls of two streams.

-- the arguments of `fd_read` and `fd_write`
pub record Transfer : Type 0 where
  pub descriptor : ℕ
  pub buffers : ℕ
  pub count : ℕ
  pub place : ℕ

abbrev pub transfer_of : (arguments : List ℕ) → Transfer
transfer_of arguments = record {
  descriptor = slice_index arguments 0;
  buffers = slice_index arguments 1;
  count = slice_index arguments 2;
  place = slice_index arguments 3;
}

abbrev pub listed : (memory : List ℕ) → Transfer → List Buffer
listed memory call = buffers_at memory call.buffers call.count

-- the array of buffers, the place of the count, and each buffer lie within the memory
abbrev pub reaches : (memory : List ℕ) → Transfer → Bool
reaches memory call =
    lies_in memory call.buffers (buffer_bytes * call.count)
    && lies_in memory call.place 4
    && all_lie_in memory (listed memory call)

abbrev pub reads_from : (descriptor : ℕ) → Bool
reads_from descriptor = descriptor == 0

abbrev pub writes_to : (descriptor : ℕ) → Bool
writes_to descriptor = descriptor == 1 || descriptor == 2

-- more bytes than the reply may have, or than a count can tell
abbrev pub overflows : (reply : List ℕ) (descriptor room : ℕ) → Bool
overflows reply descriptor room =
    if descriptor == 1 then nat_lt most_reply_bytes (length reply + room)
    else nat_le (2 ^ 32) room

-- the first check that fails, before any effect
abbrev pub read_error : (memory : List ℕ) → Transfer → Option ℕ
read_error memory call =
    if nat_lt most_buffers call.count then Some invalid_argument else (
    if not (reads_from call.descriptor) then Some bad_file_descriptor else (
    if not (reaches memory call) then Some fault else None))

abbrev pub write_error : (memory reply : List ℕ) → Transfer → Option ℕ
write_error memory reply call =
    if nat_lt most_buffers call.count then Some invalid_argument else (
    if not (writes_to call.descriptor) then Some bad_file_descriptor else (
    if not (reaches memory call) then Some fault else (
    if overflows reply call.descriptor (room_of (listed memory call)) then Some too_large else None)))

-- the price of a success
abbrev pub transfer_price : (count bytes : ℕ) → ℕ
transfer_price count bytes = 1 + count + bytes / 64

-- a call that succeeded stores how many bytes it moved
abbrev pub moved : (bytes : ℕ) → Transfer → (memory : List ℕ) → Streams → HostEffect
moved bytes call memory streams = record {
  answer = Gives success;
  price = transfer_price call.count bytes;
  memory = with_bytes memory call.place (bytes_of 4 bytes);
  streams = streams;
}

-- an error has no effect
abbrev pub fails : (errno : ℕ) (memory : List ℕ) → Streams → HostEffect
fails errno memory streams = record { answer = Gives errno; price = 1; memory = memory; streams = streams }

-- the next bytes of the request, as many as fit or are left
abbrev pub next_bytes : (memory : List ℕ) → Transfer → Streams → List ℕ
next_bytes memory call streams = take (room_of (listed memory call)) (drop streams.position streams.body)

abbrev pub read : (error : Option ℕ) (memory : List ℕ) → Transfer → Streams → HostEffect
read (Some errno) memory call streams = fails errno memory streams
read None memory call streams =
    let bytes = next_bytes memory call streams in
    moved (length bytes) call (scattered memory (listed memory call) bytes) (record streams { position = streams.position + length bytes })

-- descriptor 1 is the reply, and bytes to descriptor 2 are dropped
abbrev pub written : (descriptor : ℕ) (bytes : List ℕ) → Streams → Streams
written descriptor bytes streams = if descriptor == 1 then record streams { reply = streams.reply ++ bytes } else streams

abbrev pub write : (error : Option ℕ) (memory : List ℕ) → Transfer → Streams → HostEffect
write (Some errno) memory call streams = fails errno memory streams
write None memory call streams =
    let bytes = gathered memory (listed memory call) in
    moved (length bytes) call memory (written call.descriptor bytes streams)

abbrev pub exit : (code : ℕ) (memory : List ℕ) → Streams → HostEffect
exit code memory streams = record { answer = Exits code; price = 1; memory = memory; streams = streams }

-- what a call of a function of the host does, with these arguments, the first one first
abbrev pub host_effect : HostName → (arguments memory : List ℕ) → Streams → HostEffect
host_effect FdRead arguments memory streams =
    let call = transfer_of arguments in read (read_error memory call) memory call streams
host_effect FdWrite arguments memory streams =
    let call = transfer_of arguments in write (write_error memory streams.reply call) memory call streams
host_effect ProcExit arguments memory streams = exit (slice_index arguments 0) memory streams
