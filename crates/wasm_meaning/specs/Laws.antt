-- What the laws speak of.
use Rattle.std.specs.Prelude.{ℕ, ◌≡◌, ◌≤◌, ◌+◌, ◌*◌, ◌%◌, ◌^◌, List, length, take, drop, sum, Some}
use Rattle.wasm_meaning.specs.Bytes.{bytes_of, bytes_at, loaded}
use Rattle.wasm_meaning.specs.HostCalls.{Streams, HostEffect, most_reply_bytes}
use Rattle.wasm_meaning.specs.Requests.{Request}
use Rattle.wasm_meaning.specs.State.{Run}

-- prices and what is left make the budget
pub record Balances (budget : ℕ) (run : Run) : Type 0 where
  pub sum_is : sum run.prices + run.left ≡ budget

-- the same run with so much more left at its end
abbrev pub with_more : (more : ℕ) → Run → Run
with_more more run = record run { left = run.left + more }

-- the same request with so much more budget
abbrev pub richer : (more : ℕ) → Request → Request
richer more request = record request { budget = request.budget + more }

-- the memory behind a store of a number in so many bytes from a place on: just these bytes changed, and a load there gives the number modulo its width
pub record Stores (memory : List ℕ) (at width n : ℕ) (after : List ℕ) : Type 0 where
  pub length_stays : length after ≡ length memory
  pub before_stays : take at after ≡ take at memory
  pub behind_stays : drop (at + width) after ≡ drop (at + width) memory
  pub bytes_are : bytes_at after at width ≡ bytes_of width n
  pub loads_again : loaded after at width ≡ Some (n % 2 ^ (8 * width))

-- what a call of the host keeps: the memory's length, and of the streams the body, a position within it, and a reply that has room
pub record KeepsHost (memory : List ℕ) (streams : Streams) (after : HostEffect) : Type 0 where
  pub least : 1 ≤ after.price
  pub same_length : length after.memory ≡ length memory
  pub same_body : after.streams.body ≡ streams.body
  pub within_body : streams.position ≤ length streams.body → after.streams.position ≤ length streams.body
  pub reply_room : length streams.reply ≤ most_reply_bytes → length after.streams.reply ≤ most_reply_bytes
