-- What each call of the host keeps: the memory's length, the request's body, and the room of the reply; and that each costs something.
use Rattle.std.proofs.Common.{◌≡◌, ℕ, ◌+◌, ◌*◌, ◌^◌, ◌≤◌, ◌==◌, Bool, true, false, cond, not, ◌&&◌, nat_lt, nat_le, List, [], ◌∷◌, ◌++◌, length, take, drop, map, Option, Some, None, refl, sym, ap, subst, ◌∙◌, arith, length-append, length-take, length-drop}
use Rattle.std.proofs.lemmas.Bool.Decides.{nat_tests}
use Rattle.std.proofs.lemmas.List.Sums.{sum_by-cons}
use Rattle.wasm_ops.specs.declared.host_calls.HostName.{HostName}
use Rattle.wasm_ops.specs.declared.host_calls.HostName.TheVariants.{FdRead, FdWrite, ProcExit}
use Rattle.wasm_meaning.specs.Bytes.{bytes_of, lies_in, bytes_at, with_bytes}
use Rattle.wasm_meaning.specs.HostCalls.{Streams, HostEffect, Buffer, buffer_bytes, all_lie_in, room_of, gathered, scattered, most_buffers, most_reply_bytes, Transfer, transfer_of, listed, reaches, reads_from, writes_to, overflows, read_error, write_error, invalid_argument, bad_file_descriptor, fault, too_large, next_bytes, read, written, write, host_effect}
use Rattle.wasm_meaning.specs.Laws.{KeepsHost}
use Rattle.wasm_meaning.proofs.MemoryLaws.{length-bytes_of, length-with_bytes, lies}
use Rattle.wasm_meaning.proofs.ModuleFacts.{and_both, not_false}

-- A check that passed.

passed : (b : Bool) (errno : ℕ) (more : Option ℕ) → cond b (Some errno) more ≡ None → (b ≡ false) × (more ≡ None)
passed true errno more e = let bad : ⊥ = cc in absurd bad
passed false errno more e = (refl, e)

read_reaches : (memory : List ℕ) (call : Transfer) → read_error memory call ≡ None → reaches memory call ≡ true
read_reaches memory call e =
    let a = passed (nat_lt most_buffers call.count) invalid_argument _ e in
    let b = passed (not (reads_from call.descriptor)) bad_file_descriptor _ a.1 in
    not_false (reaches memory call) (passed (not (reaches memory call)) fault None b.1).0

write_reaches : (memory reply : List ℕ) (call : Transfer) → write_error memory reply call ≡ None → reaches memory call ≡ true
write_reaches memory reply call e =
    let a = passed (nat_lt most_buffers call.count) invalid_argument _ e in
    let b = passed (not (writes_to call.descriptor)) bad_file_descriptor _ a.1 in
    not_false (reaches memory call) (passed (not (reaches memory call)) fault _ b.1).0

write_has_room : (memory reply : List ℕ) (call : Transfer) → write_error memory reply call ≡ None → overflows reply call.descriptor (room_of (listed memory call)) ≡ false
write_has_room memory reply call e =
    let a = passed (nat_lt most_buffers call.count) invalid_argument _ e in
    let b = passed (not (writes_to call.descriptor)) bad_file_descriptor _ a.1 in
    let c = passed (not (reaches memory call)) fault _ b.1 in
    (passed (overflows reply call.descriptor (room_of (listed memory call))) too_large None c.1).0

-- where the count goes, and where the buffers lie
count_lies : (memory : List ℕ) (call : Transfer) → reaches memory call ≡ true → call.place + 4 ≤ length memory
count_lies memory call e =
    let first = and_both (lies_in memory call.buffers (buffer_bytes * call.count) && lies_in memory call.place 4) (all_lie_in memory (listed memory call)) e in
    let second = and_both (lies_in memory call.buffers (buffer_bytes * call.count)) (lies_in memory call.place 4) first.0 in
    lies memory call.place 4 second.1

buffers_lie : (memory : List ℕ) (call : Transfer) → reaches memory call ≡ true → all_lie_in memory (listed memory call) ≡ true
buffers_lie memory call e =
    (and_both (lies_in memory call.buffers (buffer_bytes * call.count) && lies_in memory call.place 4) (all_lie_in memory (listed memory call)) e).1

counted_length : (memory : List ℕ) (place bytes : ℕ) → place + 4 ≤ length memory → length (with_bytes memory place (bytes_of 4 bytes)) ≡ length memory
counted_length memory place bytes fits = length-with_bytes memory place (bytes_of 4 bytes) (omega (arith, fits, length-bytes_of 4 bytes))

-- bytes that are laid in buffers leave the length
scattered_length
    : (buffers : List Buffer) (memory bytes : List ℕ) (whole : List ℕ) → length memory ≡ length whole → all_lie_in whole buffers ≡ true
    → length (scattered memory buffers bytes) ≡ length whole
scattered_length [] memory bytes whole same all = same
scattered_length (buffer ∷ buffers) memory bytes whole same all =
    let both = and_both (lies_in whole buffer.at buffer.count) (all_lie_in whole buffers) all in
    let fits = lies whole buffer.at buffer.count both.0 in
    let short = length-take buffer.count bytes in
    let here = length-with_bytes memory buffer.at (take buffer.count bytes) (omega (arith, fits, short, same)) in
    scattered_length buffers (with_bytes memory buffer.at (take buffer.count bytes)) (drop buffer.count bytes) whole (here ∙ same) both.1

-- gathered bytes are no more than the buffers have
gathered_length : (memory : List ℕ) (buffers : List Buffer) → length (gathered memory buffers) ≤ room_of buffers
gathered_length memory [] = omega arith
gathered_length memory (buffer ∷ buffers) =
    let more = gathered_length memory buffers in
    let short = length-take buffer.count (drop buffer.at memory) in
    let all = sum_by-cons (λ x. x) buffer.count (map (λ (b : Buffer). b.count) buffers) in
    omega (arith, more, short, all, length-append (bytes_at memory buffer.at buffer.count) (gathered memory buffers))

-- an effect that leaves memory and streams
same_keeps : (after : HostEffect) (memory : List ℕ) (streams : Streams) → after.price ≡ 1 → after.memory ≡ memory → after.streams ≡ streams → KeepsHost memory streams after
same_keeps after memory streams price same_memory same_streams = record {
  least = omega (arith, price);
  same_length = ap (λ (m : List ℕ). length m) same_memory;
  same_body = ap (λ (s : Streams). s.body) same_streams;
  within_body = λ within. subst (λ (n : ℕ). n ≤ length streams.body) (sym (ap (λ (s : Streams). s.position) same_streams)) within;
  reply_room = λ room. subst (λ (reply : List ℕ). length reply ≤ most_reply_bytes) (sym (ap (λ (s : Streams). s.reply) same_streams)) room;
}

read_keeps
    : (error : Option ℕ) (memory : List ℕ) (call : Transfer) (streams : Streams) → (error ≡ None → reaches memory call ≡ true)
    → KeepsHost memory streams (read error memory call streams)
read_keeps (Some errno) memory call streams reached = same_keeps _ memory streams refl refl refl
read_keeps None memory call streams reached =
    let r = reached refl in
    let bytes = next_bytes memory call streams in
    let laid = scattered_length (listed memory call) memory bytes memory refl (buffers_lie memory call r) in
    let place = count_lies memory call r in
    record {
      least = omega arith;
      same_length = counted_length (scattered memory (listed memory call) bytes) call.place (length bytes) (omega (arith, place, laid)) ∙ laid;
      same_body = refl;
      within_body = λ within.
          omega (arith, within, length-take (room_of (listed memory call)) (drop streams.position streams.body), length-drop streams.position streams.body);
      reply_room = λ room. room;
    }

written_keeps
    : (b : Bool) (reply bytes : List ℕ) (streams : Streams) → streams.reply ≡ reply
    → (b ≡ true → length reply + length bytes ≤ most_reply_bytes) → length reply ≤ most_reply_bytes
    → length (cond b (record streams { reply = streams.reply ++ bytes }) streams).reply ≤ most_reply_bytes
written_keeps true reply bytes streams same fits room =
    omega (arith, fits refl, length-append streams.reply bytes, ap (λ (r : List ℕ). length r) same)
written_keeps false reply bytes streams same fits room = omega (arith, room, ap (λ (r : List ℕ). length r) same)

written_body : (descriptor : ℕ) (bytes : List ℕ) (streams : Streams) → ((written descriptor bytes streams).body ≡ streams.body) × ((written descriptor bytes streams).position ≡ streams.position)
written_body descriptor bytes streams = by (descriptor == 1)
  where
    by
        : (b : Bool)
        → ((cond b (record streams { reply = streams.reply ++ bytes }) streams).body ≡ streams.body)
        × ((cond b (record streams { reply = streams.reply ++ bytes }) streams).position ≡ streams.position)
    by true = (refl, refl)
    by false = (refl, refl)

-- what is written fits where the check has passed
reply_fits
    : (reply : List ℕ) (descriptor room bytes : ℕ) → overflows reply descriptor room ≡ false → bytes ≤ room → descriptor == 1 ≡ true
    → length reply + bytes ≤ most_reply_bytes
reply_fits reply descriptor room bytes e few one = by (descriptor == 1) one e
  where
    by : (b : Bool) → b ≡ true → cond b (nat_lt most_reply_bytes (length reply + room)) (nat_le (2 ^ 32) room) ≡ false → length reply + bytes ≤ most_reply_bytes
    by true is over = let within : length reply + room ≤ most_reply_bytes = grind (arith, nat_tests) in omega (arith, within, few)
    by false is over = let bad : ⊥ = cc in absurd bad

write_keeps
    : (error : Option ℕ) (memory : List ℕ) (call : Transfer) (streams : Streams) → (error ≡ None → reaches memory call ≡ true)
    → (error ≡ None → overflows streams.reply call.descriptor (room_of (listed memory call)) ≡ false)
    → KeepsHost memory streams (write error memory call streams)
write_keeps (Some errno) memory call streams reached has_room = same_keeps _ memory streams refl refl refl
write_keeps None memory call streams reached has_room =
    let bytes = gathered memory (listed memory call) in
    let few = gathered_length memory (listed memory call) in
    let same = written_body call.descriptor bytes streams in
    record {
      least = omega arith;
      same_length = counted_length memory call.place (length bytes) (count_lies memory call (reached refl));
      same_body = same.0;
      within_body = λ within. subst (λ (n : ℕ). n ≤ length streams.body) (sym same.1) within;
      reply_room = λ room.
          written_keeps (call.descriptor == 1) streams.reply bytes streams refl
          (reply_fits streams.reply call.descriptor (room_of (listed memory call)) (length bytes) (has_room refl) few) room;
    }

pub host_keeps : (name : HostName) (arguments memory : List ℕ) (streams : Streams) → KeepsHost memory streams (host_effect name arguments memory streams)
host_keeps FdRead arguments memory streams =
    let call = transfer_of arguments in read_keeps (read_error memory call) memory call streams (read_reaches memory call)
host_keeps FdWrite arguments memory streams =
    let call = transfer_of arguments in
    write_keeps (write_error memory streams.reply call) memory call streams (write_reaches memory streams.reply call) (write_has_room memory streams.reply call)
host_keeps ProcExit arguments memory streams = same_keeps _ memory streams refl refl refl
