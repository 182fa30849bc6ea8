-- What the parts of a call come to together.
use Rattle.std.proofs.Common.{◌≡◌, ℕ, ◌+◌, ◌^◌, ◌≤◌, ◌<◌, ◌==◌, Bool, true, false, cond, min, nat_lt, nat_le, List, ◌∷◌, length, take, drop, Option, Some, None, refl, sym, ap, subst, ◌∙◌, arith}
use Rattle.std.proofs.lemmas.Bool.Decides.{nat_tests}
use Rattle.std.proofs.lemmas.List.{length-take, take_min}
use Rattle.wasm_meaning.specs.Bytes.{bytes_of, with_bytes}
use Rattle.wasm_meaning.specs.HostCalls.{Streams, HostAnswer, HostEffect, host_effect, transfer_of, read_error, write_error, room_of, gathered, scattered, Transfer, listed, overflows, transfer_price, fails, moved, next_bytes, read, written, write}
use Rattle.wasm_ops.specs.declared.host_calls.HostCall.{HostCall}
use Rattle.wasm_ops.specs.declared.host_calls.HostName.{HostName}
use Rattle.wasm_ops.specs.declared.host_calls.HostName.TheVariants.{FdRead, FdWrite}
use Rattle.wasm_store.specs.View.{View}
use Rattle.wasi_calls.specs.Answers.{GaveErrno, HostAnswers, HasMoved, FallsShort, Moves}
use Rattle.wasm_states.specs.HostCalls.{effect_of, cells_taken, answered}
use Rattle.wasi_calls.specs.Transfers.{transfer_for, Surveyed}
use Rattle.wasi_calls.specs.declared.calls.HostStep.{HostStep}
use Rattle.wasi_calls.specs.declared.calls.HostStep.TheVariants.{Went}
use Rattle.wasi_calls.specs.declared.iovecs.Survey.{Survey}
use Rattle.wasi_calls.specs.declared.transfers.Done.{Done}
use Rattle.wasi_calls.specs.declared.transfers.StreamCall.{StreamCall}
use Rattle.wasi_calls.proofs.BufferLaws.{all_gathered, reached}

-- what `Done.failed` answers
abbrev pub failure : (errno left : ℕ) → Option Done
failure errno left = cond (nat_lt left 1) None (Some (record { errno = errno; price = 1 }))

-- an error changes nothing
fails_moves : (left errno : ℕ) (v : View) (s : Streams) → Moves left (fails errno v.memory s) v v s s (failure errno left)
fails_moves left errno v s = by (nat_lt left 1) refl
  where
    by : (b : Bool) → nat_lt left 1 ≡ b → Moves left (fails errno v.memory s) v v s s (cond b None (Some (record { errno = errno; price = 1 })))
    by true e = record { short = grind (arith, nat_tests); vessel_stays = refl; streams_stay = refl }
    by false e = record { gives = refl; price_is = refl; within = grind (arith, nat_tests); vessel_is = refl; streams_are = refl }

pub read_fails
    : (left errno : ℕ) (v : View) (s : Streams) (call : Transfer) (error : Option ℕ) (result : Option Done) → error ≡ Some errno → result ≡ failure errno left
    → Moves left (read error v.memory call s) v v s s result
read_fails left errno v s call error result e is =
    subst
    (λ (o : Option ℕ). Moves left (read o v.memory call s) v v s s result)
    (sym e)
    (subst (Moves left (fails errno v.memory s) v v s s) (sym is) (fails_moves left errno v s))

pub write_fails
    : (left errno : ℕ) (v : View) (s : Streams) (call : Transfer) (error : Option ℕ) (result : Option Done) → error ≡ Some errno → result ≡ failure errno left
    → Moves left (write error v.memory call s) v v s s result
write_fails left errno v s call error result e is =
    subst
    (λ (o : Option ℕ). Moves left (write o v.memory call s) v v s s result)
    (sym e)
    (subst (Moves left (fails errno v.memory s) v v s s) (sym is) (fails_moves left errno v s))

-- How many bytes a read moves, and which.

pub read_count
    : (v : View) (s : Streams) (call : Transfer) (survey : Survey) (bytes : ℕ) → Surveyed v.memory call survey → bytes ≡ min survey.room (length (drop s.position s.body))
    → bytes ≡ length (next_bytes v.memory call s)
read_count v s call survey bytes known is =
    is
    ∙ ap (λ (n : ℕ). min n (length (drop s.position s.body))) known.room_is
    ∙ sym (length-take (room_of (listed v.memory call)) (drop s.position s.body))

read_bytes
    : (v : View) (s : Streams) (call : Transfer) (survey : Survey) (bytes : ℕ) → Surveyed v.memory call survey → bytes ≡ min survey.room (length (drop s.position s.body))
    → take bytes (drop s.position s.body) ≡ next_bytes v.memory call s
read_bytes v s call survey bytes known is =
    ap (λ (n : ℕ). take n (drop s.position s.body)) (is ∙ ap (λ (n : ℕ). min n (length (drop s.position s.body))) known.room_is)
    ∙ take_min (room_of (listed v.memory call)) (drop s.position s.body)

pub read_moves
    : (left : ℕ) (v laid after : View) (s s' : Streams) (call : Transfer) (survey : Survey) (bytes price : ℕ) → Surveyed v.memory call survey
    → bytes ≡ min survey.room (length (drop s.position s.body)) → price ≡ transfer_price call.count bytes → price ≤ left
    → laid ≡ record v { memory = scattered v.memory (listed v.memory call) (take bytes (drop s.position s.body)) }
    → after ≡ record laid { memory = with_bytes laid.memory call.place (bytes_of 4 bytes) }
    → s' ≡ record s { position = s.position + bytes }
    → HasMoved left (read None v.memory call s) v after s' (record { errno = 0; price = price })
read_moves left v laid after s s' call survey bytes price known is costs within lays stores passes =
    let buffers = listed v.memory call in
    let next = next_bytes v.memory call s in
    let count = read_count v s call survey bytes known is in
    let same = read_bytes v s call survey bytes known is in
    record {
      gives = refl;
      price_is = costs ∙ ap (λ (n : ℕ). transfer_price call.count n) count;
      within = within;
      vessel_is =
          stores
          ∙ ap (λ (w : View). record w { memory = with_bytes w.memory call.place (bytes_of 4 bytes) }) lays
          ∙ ap (λ (bs : List ℕ). record v { memory = with_bytes (scattered v.memory buffers bs) call.place (bytes_of 4 bytes) }) same
          ∙ ap (λ (n : ℕ). record v { memory = with_bytes (scattered v.memory buffers next) call.place (bytes_of 4 n) }) count;
      streams_are = passes ∙ ap (λ (n : ℕ). record s { position = s.position + n }) count;
    }

pub read_short
    : (left : ℕ) (v : View) (s : Streams) (call : Transfer) (survey : Survey) (bytes price : ℕ) → Surveyed v.memory call survey
    → bytes ≡ min survey.room (length (drop s.position s.body)) → price ≡ transfer_price call.count bytes → left < price
    → FallsShort left (read None v.memory call s) v v s s
read_short left v s call survey bytes price known is costs short =
    let count = read_count v s call survey bytes known is in
    let same : price ≡ transfer_price call.count (length (next_bytes v.memory call s)) = costs ∙ ap (λ (n : ℕ). transfer_price call.count n) count in
    record { short = subst (λ (n : ℕ). left < n) same short; vessel_stays = refl; streams_stay = refl }

-- Likewise of a write.

pub room_is_small : (reply : List ℕ) (descriptor room : ℕ) → overflows reply descriptor room ≡ false → room < 2 ^ 32
room_is_small reply descriptor room fits = by (descriptor == 1) fits
  where
    by : (b : Bool) → cond b (nat_lt 65536 (length reply + room)) (nat_le (2 ^ 32) room) ≡ false → room < 2 ^ 32
    by true e = let few : length reply + room ≤ 65536 = grind (arith, nat_tests) in omega (arith, few)
    by false e = grind (arith, nat_tests)

pub reply_has_room : (reply : List ℕ) (descriptor room : ℕ) → overflows reply descriptor room ≡ false → descriptor ≡ 1 → length reply + room ≤ 65536
reply_has_room reply descriptor room fits is = grind (arith, nat_tests)

pub write_count : (v : View) (call : Transfer) (survey : Survey) → Surveyed v.memory call survey → survey.room ≡ length (gathered v.memory (listed v.memory call))
write_count v call survey known = known.room_is ∙ sym (all_gathered v.memory (listed v.memory call) (reached v.memory call known.within).buffers)

pub write_moves
    : (left : ℕ) (v after : View) (s s' : Streams) (call : Transfer) (survey : Survey) (price : ℕ) → Surveyed v.memory call survey → price ≡ transfer_price call.count survey.room
    → price ≤ left → after ≡ record v { memory = with_bytes v.memory call.place (bytes_of 4 survey.room) }
    → s' ≡ written call.descriptor (gathered v.memory (listed v.memory call)) s
    → HasMoved left (write None v.memory call s) v after s' (record { errno = 0; price = price })
write_moves left v after s s' call survey price known costs within stores writes =
    let count = write_count v call survey known in
    record {
      gives = refl;
      price_is = costs ∙ ap (λ (n : ℕ). transfer_price call.count n) count;
      within = within;
      vessel_is = stores ∙ ap (λ (n : ℕ). record v { memory = with_bytes v.memory call.place (bytes_of 4 n) }) count;
      streams_are = writes;
    }

pub write_short
    : (left : ℕ) (v : View) (s : Streams) (call : Transfer) (survey : Survey) (price : ℕ) → Surveyed v.memory call survey → price ≡ transfer_price call.count survey.room
    → left < price → FallsShort left (write None v.memory call s) v v s s
write_short left v s call survey price known costs short =
    let same : price ≡ transfer_price call.count (length (gathered v.memory (listed v.memory call))) = costs ∙ ap (λ (n : ℕ). transfer_price call.count n) (write_count v call survey known) in
    record { short = subst (λ (n : ℕ). left < n) same short; vessel_stays = refl; streams_stay = refl }

-- A call that came back.

gave_errno
    : (call : HostCall) (left : ℕ) (effect : HostEffect) (v moved after : View) (s' : Streams) (done : Done) → HasMoved left effect v moved s' done
    → after ≡ record moved { cells = done.errno ∷ drop (cells_taken call) moved.cells; place = moved.place + 1 }
    → GaveErrno call left effect v after s' done.price
gave_errno call left effect v moved after s' done known back = record {
  errno = done.errno;
  gives = known.gives;
  price_is = known.price_is;
  within = known.within;
  vessel_is =
      back
      ∙ ap (λ (w : View). record w { cells = done.errno ∷ drop (cells_taken call) w.cells; place = w.place + 1 }) known.vessel_is
      ∙ ap (λ (a : HostAnswer). record v { memory = effect.memory; cells = answered a (drop (cells_taken call) v.cells); place = v.place + 1 }) (sym known.gives);
  streams_are = known.streams_are;
}

answers_as
    : (call : HostCall) (left : ℕ) (effect whole : HostEffect) (v moved after : View) (s s' : Streams) (done : Done) (result : HostStep) → effect ≡ whole
    → HasMoved left effect v moved s' done
    → after ≡ record moved { cells = done.errno ∷ drop (cells_taken call) moved.cells; place = moved.place + 1 } → result ≡ Went done.price
    → HostAnswers call left whole v after s s' result
answers_as call left effect whole v moved after s s' done result same known back is =
    subst
    (λ (e : HostEffect). HostAnswers call left e v after s s' result)
    same
    (subst (HostAnswers call left effect v after s s') (sym is) (gave_errno call left effect v moved after s' done known back))

pub read_answers
    : (call : HostCall) (left : ℕ) (given : StreamCall) (v moved after : View) (s s' : Streams) (done : Done) (result : HostStep) → call.name ≡ FdRead
    → transfer_for given ≡ transfer_of call.args
    → HasMoved left (read (read_error v.memory (transfer_for given)) v.memory (transfer_for given) s) v moved s' done
    → after ≡ record moved { cells = done.errno ∷ drop (cells_taken call) moved.cells; place = moved.place + 1 } → result ≡ Went done.price
    → HostAnswers call left (effect_of call v s) v after s s' result
read_answers call left given v moved after s s' done result name same known back is =
    answers_as call left (read (read_error v.memory (transfer_for given)) v.memory (transfer_for given) s) (effect_of call v s) v moved after s s' done result (
    ap (λ (t : Transfer). read (read_error v.memory t) v.memory t s) same ∙ ap (λ (n : HostName). host_effect n call.args v.memory s) (sym name)) known back is

pub write_answers
    : (call : HostCall) (left : ℕ) (given : StreamCall) (v moved after : View) (s s' : Streams) (done : Done) (result : HostStep) → call.name ≡ FdWrite
    → transfer_for given ≡ transfer_of call.args
    → HasMoved left (write (write_error v.memory s.reply (transfer_for given)) v.memory (transfer_for given) s) v moved s' done
    → after ≡ record moved { cells = done.errno ∷ drop (cells_taken call) moved.cells; place = moved.place + 1 } → result ≡ Went done.price
    → HostAnswers call left (effect_of call v s) v after s s' result
write_answers call left given v moved after s s' done result name same known back is =
    answers_as call left (write (write_error v.memory s.reply (transfer_for given)) v.memory (transfer_for given) s) (effect_of call v s) v moved after s s' done result (
    ap (λ (t : Transfer). write (write_error v.memory s.reply t) v.memory t s) same ∙ ap (λ (n : HostName). host_effect n call.args v.memory s) (sym name)) known back is
