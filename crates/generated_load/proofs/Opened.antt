-- The records of the load follow one another: each connection begins once, and is open when a request arrives on it.
use Rattle.std.proofs.Common.{◌≡◌, ℕ, ◌+◌, ◌/◌, ◌%◌, ◌<◌, ◌≤◌, Bool, true, false, List, [], ◌∷◌, ◌++◌, sym, ap, ◌∙◌, arith}
use Rattle.std.proofs.lemmas.List.FromFn.{get_or-map-range_with_len, length-map-range_with_len, map-range_with_len_more}
use Rattle.std.proofs.lemmas.Nat.{mod_below}
use Rattle.std.proofs.lemmas.Option.{unwrap_or-slice_get}
use Rattle.recording_format.specs.declared.records.Event.TheVariants.{Arrives}
use Rattle.recording_format.specs.Standing.{Standing, behind}
use Rattle.recording_format.specs.Following.{MayFollow, is_open}
use Rattle.generated_load.specs.Recording.{beginning_of, beginnings, opened}

pub one_more_open : (links : ℕ) → opened links ++ true ∷ [] ≡ opened (links + 1)
one_more_open links = sym (map-range_with_len_more (λ (k : ℕ). true) 0 links links (omega arith))

pub open_within : (links link : ℕ) → link < links → is_open (opened links) link ≡ true
open_within links link within =
    unwrap_or-slice_get (opened links) link false ∙ get_or-map-range_with_len (λ (k : ℕ). true) 0 links link link false within (omega arith)

-- the next connection may begin
pub next_begins : (s : Standing) (link : ℕ) → s ≡ record { last = 0; links = opened link } → link < 16 → MayFollow s (beginning_of link)
next_begins s link is below = rw is (record {
  moment = omega arith;
  link = sym (length-map-range_with_len (λ (k : ℕ). true) 0 link);
  few = omega arith;
})

-- and so matters stand behind it
pub begun : (s : Standing) (link : ℕ) → s ≡ record { last = 0; links = opened link } → behind s (beginning_of link) ≡ record { last = 0; links = opened (link + 1) }
begun s link is =
    ap (λ (t : Standing). behind t (beginning_of link)) is ∙ ap (λ (links : List Bool). record { last = 0; links = links }) (one_more_open link)

pub one_more_beginning : (link : ℕ) → beginnings link ++ beginning_of link ∷ [] ≡ beginnings (link + 1)
one_more_beginning link = sym (map-range_with_len_more beginning_of 0 link link (omega arith))

-- the next request may arrive
pub next_arrives : (s : Standing) (links place : ℕ) (piece : List ℕ) → 0 < links → links ≤ 16 → s.last ≤ place / 8 → s.links ≡ opened links
    → MayFollow s (record { moment = place / 8; link = place % links; event = Arrives piece })
next_arrives s links place piece some few last opens =
    let within : place % links < links = mod_below place links some in
    record {
      moment = last;
      link = ap (λ (ls : List Bool). is_open ls (place % links)) opens ∙ open_within links (place % links) within;
      few = omega arith;
    }
