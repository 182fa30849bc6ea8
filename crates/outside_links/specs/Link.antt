-- A connection as contracts see it, and what each of its calls does to it.
use Rattle.std.specs.Prelude.{◌≡◌, ◌↔◌, ℕ, Bool, true, false, ◌||◌, ◌==◌, not, List, [], length, take, Option, IfSome}
use Rattle.std.specs.Io.KnownBytes.{append_known, prepend_known}
use Rattle.outside_links.specs.Faults.{one_more}

pub record LinkState : Type 0 where
  -- the bytes that are still to come, and all that were written, where the link tells them
  pub left : Option (List ℕ)
  pub written : Option (List ℕ)
  -- a read has answered 0
  pub ended : Bool
  -- a read has answered 0, a call has failed, or a byte was written
  pub used : Bool
  -- how many calls have failed
  pub faults : ℕ

-- a link on which nothing has ended or failed, and to which nothing was written
pub record IsFresh (link : LinkState) : Type 0 where
  pub ended : link.ended ≡ false
  pub used : link.used ≡ false

-- calls between these two states took these bytes in and sent those: a link that tells the bytes
-- that are left has so many fewer, and one that tells the bytes written so many more
pub record Exchanges (old new : LinkState) (read sent : List ℕ) : Type 0 where
  pub left : old.left ≡ prepend_known read new.left
  pub written : new.written ≡ append_known old.written sent

-- a read answered this count: 0 marks the end, which comes exactly where no byte is left
pub record Reads (old new : LinkState) (count : ℕ) : Type 0 where
  pub end : IfSome old.left (λ left. (count ≡ 0) ↔ (left ≡ []))
  pub ended : new.ended ≡ (old.ended || (count == 0))
  pub used : new.used ≡ (old.used || (count == 0))
  pub faults : new.faults ≡ old.faults

-- a write took all of these bytes
pub record Writes (old new : LinkState) (bytes : List ℕ) : Type 0 where
  pub ended : new.ended ≡ old.ended
  pub used : new.used ≡ (old.used || not (length bytes == 0))
  pub faults : new.faults ≡ old.faults

-- a call failed, and was counted
pub record Fails (old new : LinkState) : Type 0 where
  pub ended : new.ended ≡ old.ended
  pub used : new.used ≡ true
  pub faults : new.faults ≡ one_more old.faults

-- a first part of these bytes was sent, by what a link shows of its calls
pub record SendsPart {L : Type 0} (exchanged : L → L → List ℕ → List ℕ → Type 0) (old new : L) (bytes : List ℕ) : Type 0 where
  pub count : ℕ
  pub sent : exchanged old new [] (take count bytes)
