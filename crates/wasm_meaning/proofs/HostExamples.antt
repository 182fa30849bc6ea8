-- Calls of the host: each error in its order, and each success with what it changes and costs.
use Rattle.std.proofs.Common.{◌≡◌, ℕ, [], ◌∷◌, ◌++◌, List, replicate, refl}
use Rattle.wasm_ops.specs.declared.host_calls.HostName.{HostName}
use Rattle.wasm_ops.specs.declared.host_calls.HostName.TheVariants.{FdRead, FdWrite, ProcExit}
use Rattle.wasm_meaning.specs.Bytes.{zeros, bytes_of}
use Rattle.wasm_meaning.specs.HostCalls.{Streams, HostAnswer, Gives, Exits, HostEffect, host_effect}

-- a call on a memory, with a request of three bytes of which one is read, and a reply of so many bytes
abbrev streams : (written : ℕ) → Streams
streams written = record { body = 10 ∷ 11 ∷ 12 ∷ []; position = 1; reply = replicate written 1 }

abbrev does : HostName → (arguments memory : List ℕ) → (written : ℕ) → HostEffect
does name arguments memory written = host_effect name arguments memory (streams written)

abbrev effect : HostAnswer → (price : ℕ) → List ℕ → Streams → HostEffect
effect answer price memory after = record { answer = answer; price = price; memory = memory; streams = after }

-- nothing changes with an error
abbrev fails : (errno : ℕ) → (memory : List ℕ) → (written : ℕ) → HostEffect
fails errno memory written = effect (Gives errno) 1 memory (streams written)

-- two buffers at 16: one byte at 0, and four bytes at 4; the count goes to 8
abbrev buffers : List ℕ
buffers = bytes_of 4 0 ++ (bytes_of 4 1 ++ (bytes_of 4 4 ++ bytes_of 4 4))

abbrev memory : List ℕ
memory = 7 ∷ 0 ∷ 0 ∷ 0 ∷ 5 ∷ 6 ∷ 7 ∷ 8 ∷ 9 ∷ 9 ∷ 9 ∷ 9 ∷ 0 ∷ 0 ∷ 0 ∷ 0 ∷ buffers

-- the two bytes that are left go into both buffers, and their number is stored
reads
    : does FdRead (0 ∷ 16 ∷ 2 ∷ 8 ∷ []) memory 0
    ≡ effect (Gives 0) 3 (11 ∷ 0 ∷ 0 ∷ 0 ∷ 12 ∷ 6 ∷ 7 ∷ 8 ∷ 2 ∷ 0 ∷ 0 ∷ 0 ∷ 0 ∷ 0 ∷ 0 ∷ 0 ∷ buffers)
    (record { body = 10 ∷ 11 ∷ 12 ∷ []; position = 3; reply = [] })
reads = refl

-- into the first buffer alone
reads_as_many_as_fit
    : does FdRead (0 ∷ 16 ∷ 1 ∷ 8 ∷ []) memory 0
    ≡ effect (Gives 0) 2 (11 ∷ 0 ∷ 0 ∷ 0 ∷ 5 ∷ 6 ∷ 7 ∷ 8 ∷ 1 ∷ 0 ∷ 0 ∷ 0 ∷ 0 ∷ 0 ∷ 0 ∷ 0 ∷ buffers)
    (record { body = 10 ∷ 11 ∷ 12 ∷ []; position = 2; reply = [] })
reads_as_many_as_fit = refl

-- no buffer, whose array begins at the memory's end
reads_nothing
    : does FdRead (0 ∷ 32 ∷ 0 ∷ 8 ∷ []) memory 0
    ≡ effect (Gives 0) 1 (7 ∷ 0 ∷ 0 ∷ 0 ∷ 5 ∷ 6 ∷ 7 ∷ 8 ∷ 0 ∷ 0 ∷ 0 ∷ 0 ∷ 0 ∷ 0 ∷ 0 ∷ 0 ∷ buffers) (streams 0)
reads_nothing = refl

-- the bytes of both buffers go to the reply
writes
    : does FdWrite (1 ∷ 16 ∷ 2 ∷ 8 ∷ []) memory 1
    ≡ effect (Gives 0) 3 (7 ∷ 0 ∷ 0 ∷ 0 ∷ 5 ∷ 6 ∷ 7 ∷ 8 ∷ 5 ∷ 0 ∷ 0 ∷ 0 ∷ 0 ∷ 0 ∷ 0 ∷ 0 ∷ buffers)
    (record { body = 10 ∷ 11 ∷ 12 ∷ []; position = 1; reply = 1 ∷ 7 ∷ 5 ∷ 6 ∷ 7 ∷ 8 ∷ [] })
writes = refl

-- those to descriptor 2 are dropped
writes_to_nowhere
    : does FdWrite (2 ∷ 16 ∷ 2 ∷ 8 ∷ []) memory 1
    ≡ effect (Gives 0) 3 (7 ∷ 0 ∷ 0 ∷ 0 ∷ 5 ∷ 6 ∷ 7 ∷ 8 ∷ 5 ∷ 0 ∷ 0 ∷ 0 ∷ 0 ∷ 0 ∷ 0 ∷ 0 ∷ buffers) (streams 1)
writes_to_nowhere = refl

-- 64 bytes cost one unit more
abbrev wide_memory : List ℕ
wide_memory = bytes_of 4 16 ++ (bytes_of 4 64 ++ replicate 72 3)

wide_write
    : does FdWrite (1 ∷ 0 ∷ 1 ∷ 8 ∷ []) wide_memory 0
    ≡ effect (Gives 0) 3 (bytes_of 4 16 ++ (bytes_of 4 64 ++ (64 ∷ 0 ∷ 0 ∷ 0 ∷ replicate 68 3)))
    (record { body = 10 ∷ 11 ∷ 12 ∷ []; position = 1; reply = replicate 64 3 })
wide_write = refl

-- 28: 1,025 buffers, whatever else is wrong
too_many_to_read : does FdRead (3 ∷ 0 ∷ 1025 ∷ 0 ∷ []) [] 0 ≡ fails 28 [] 0
too_many_to_read = refl

too_many_to_write : does FdWrite (3 ∷ 0 ∷ 1025 ∷ 0 ∷ []) [] 0 ≡ fails 28 [] 0
too_many_to_write = refl

-- 8: another descriptor
read_from_1 : does FdRead (1 ∷ 40 ∷ 1024 ∷ 0 ∷ []) memory 0 ≡ fails 8 memory 0
read_from_1 = refl

write_to_0 : does FdWrite (0 ∷ 16 ∷ 2 ∷ 8 ∷ []) memory 0 ≡ fails 8 memory 0
write_to_0 = refl

write_to_3 : does FdWrite (3 ∷ 16 ∷ 2 ∷ 8 ∷ []) memory 0 ≡ fails 8 memory 0
write_to_3 = refl

-- 21: the array passes the memory's end, or the count does, or a buffer; also an array of none that begins behind it, and any without a memory
array_outside : does FdRead (0 ∷ 17 ∷ 2 ∷ 8 ∷ []) memory 0 ≡ fails 21 memory 0
array_outside = refl

count_outside : does FdRead (0 ∷ 16 ∷ 2 ∷ 29 ∷ []) memory 0 ≡ fails 21 memory 0
count_outside = refl

buffer_outside : does FdWrite (1 ∷ 0 ∷ 1 ∷ 8 ∷ []) (bytes_of 4 12 ++ (bytes_of 4 1 ++ zeros 4)) 0 ≡ fails 21 (bytes_of 4 12 ++ (bytes_of 4 1 ++ zeros 4)) 0
buffer_outside = refl

no_array_outside : does FdRead (0 ∷ 33 ∷ 0 ∷ 8 ∷ []) memory 0 ≡ fails 21 memory 0
no_array_outside = refl

no_memory : does FdWrite (1 ∷ 0 ∷ 0 ∷ 0 ∷ []) [] 0 ≡ fails 21 [] 0
no_memory = refl

-- 22: a reply of one byte more than it may have, and as many as it may have
reply_too_large : does FdWrite (1 ∷ 16 ∷ 2 ∷ 8 ∷ []) memory 65532 ≡ fails 22 memory 65532
reply_too_large = refl

reply_just_full : (does FdWrite (1 ∷ 16 ∷ 2 ∷ 8 ∷ []) memory 65531).answer ≡ Gives 0
reply_just_full = refl

exits : does ProcExit (3 ∷ []) memory 0 ≡ effect (Exits 3) 1 memory (streams 0)
exits = refl
