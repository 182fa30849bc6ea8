-- A record that is spelt ahead, and may come next, is not refused, and is the record that is read there.
use Rattle.std.proofs.Common.{◌≡◌, ◌≢◌, ℕ, ◌+◌, ◌^◌, ◌<◌, ◌≤◌, true, false, not, nat_le, ◌==◌, List, [], ◌∷◌, ◌++◌, length, take, drop, None, refl, sym, ap, ◌∙◌, arith, eq-eqb, length-append}
use Rattle.std.proofs.lemmas.Nat.{from_le_bytes-to_le_bytes_4}
use Rattle.std.proofs.lemmas.Bool.{le-ltb}
use Rattle.std.proofs.lemmas.List.{take_at, drop_at, drop-drop}
use Rattle.recording_format.specs.declared.records.Event.{Event}
use Rattle.recording_format.specs.declared.records.Event.TheVariants.{Begins, Arrives, Closes}
use Rattle.recording_format.specs.declared.records.Record.{Record}
use Rattle.recording_format.specs.Standing.{Standing}
use Rattle.recording_format.specs.Following.{is_open, MayFollow}
use Rattle.recording_format.specs.Spelling.{record_spelling}
use Rattle.recording_format.specs.Looks.{kind_ahead, moment_ahead, link_ahead, number_ahead, size_ahead, record_ahead, looks, refusal_ahead}
use Rattle.recording_format.specs.Recorded.{Fits}
use Rattle.recording_format.proofs.AheadLaws.{no_end, none_first}

-- what is read of a record that is spelt there
pub record Again (tenants : ℕ) (s : Standing) (r : Record) (ahead rest : List ℕ) : Type 0 where
  pub none : refusal_ahead tenants s ahead ≡ None
  pub some : kind_ahead ahead ≢ 0
  pub same : record_ahead ahead ≡ r
  pub left : drop (size_ahead ahead) ahead ≡ rest

above : (m n : ℕ) → n < m → nat_le m n ≡ false
above m n lt = grind (arith, lt)

abbrev of_tenant : (moment link tenant : ℕ) → Record
of_tenant moment link tenant = record { moment = moment; link = link; event = Begins tenant }

abbrev of_piece : (moment link : ℕ) (piece : List ℕ) → Record
of_piece moment link piece = record { moment = moment; link = link; event = Arrives piece }

abbrev of_close : (moment link : ℕ) → Record
of_close moment link = record { moment = moment; link = link; event = Closes }

begins_again : (tenants : ℕ) (s : Standing) (moment link tenant : ℕ) (rest : List ℕ) → link < 2 ^ 32 → tenants ≤ 2 ^ 32 → MayFollow s (of_tenant moment link tenant) → Fits tenants (of_tenant moment link tenant)
    → Again tenants s (of_tenant moment link tenant) (record_spelling (of_tenant moment link tenant) ++ rest) rest
begins_again tenants s moment link tenant rest small few may fits =
    let ahead = record_spelling (of_tenant moment link tenant) ++ rest in
    let m : moment_ahead ahead ≡ moment = from_le_bytes-to_le_bytes_4 moment fits.moment in
    let l : link_ahead ahead ≡ link = from_le_bytes-to_le_bytes_4 link small in
    let t : number_ahead ahead ≡ tenant = from_le_bytes-to_le_bytes_4 tenant (omega (arith, fits.event, few)) in
    let order : (link_ahead ahead == length s.links) ≡ true = eq-eqb _ _ (l ∙ may.link) in
    record {
      none = none_first (looks tenants s ahead)
          (no_end _, (refl, (le-ltb _ _ (omega arith), (le-ltb _ _ (omega (arith, m, may.moment)), (ap not order, (le-ltb _ _ (omega arith), (above _ _ (omega (arith, l, may.few)), (above _ _ (omega (arith, t, fits.event)), tt))))))));
      some = λ e. absurd (omega (arith, e));
      same = λ i. of_tenant (m i) (l i) (t i);
      left = refl;
    }

close_again : (tenants : ℕ) (s : Standing) (moment link : ℕ) (rest : List ℕ) → link < 2 ^ 32 → MayFollow s (of_close moment link) → Fits tenants (of_close moment link)
    → Again tenants s (of_close moment link) (record_spelling (of_close moment link) ++ rest) rest
close_again tenants s moment link rest small may fits =
    let ahead = record_spelling (of_close moment link) ++ rest in
    let m : moment_ahead ahead ≡ moment = from_le_bytes-to_le_bytes_4 moment fits.moment in
    let l : link_ahead ahead ≡ link = from_le_bytes-to_le_bytes_4 link small in
    let order : is_open s.links (link_ahead ahead) ≡ true = ap (λ (k : ℕ). is_open s.links k) l ∙ may.link in
    record {
      none = none_first (looks tenants s ahead)
          (no_end _, (refl, (le-ltb _ _ (omega arith), (le-ltb _ _ (omega (arith, m, may.moment)), (ap not order, (le-ltb _ _ (omega arith), (above _ _ (omega (arith, l, may.few)), (refl, tt))))))));
      some = λ e. absurd (omega (arith, e));
      same = λ i. of_close (m i) (l i);
      left = refl;
    }

piece_again : (tenants : ℕ) (s : Standing) (moment link : ℕ) (piece rest : List ℕ) → link < 2 ^ 32 → MayFollow s (of_piece moment link piece) → Fits tenants (of_piece moment link piece)
    → Again tenants s (of_piece moment link piece) (record_spelling (of_piece moment link piece) ++ rest) rest
piece_again tenants s moment link piece rest small may fits =
    let ahead = record_spelling (of_piece moment link piece) ++ rest in
    let m : moment_ahead ahead ≡ moment = from_le_bytes-to_le_bytes_4 moment fits.moment in
    let l : link_ahead ahead ≡ link = from_le_bytes-to_le_bytes_4 link small in
    let n : number_ahead ahead ≡ length piece = from_le_bytes-to_le_bytes_4 (length piece) fits.event in
    let order : is_open s.links (link_ahead ahead) ≡ true = ap (λ (k : ℕ). is_open s.links k) l ∙ may.link in
    let bytes : take (number_ahead ahead) (piece ++ rest) ≡ piece = take_at piece rest (number_ahead ahead) (sym n) in
    let size : size_ahead ahead ≡ 13 + length piece = omega (arith, n) in
    let long : size_ahead ahead ≤ length ahead = omega (arith, size, length-append piece rest) in
    record {
      none = none_first (looks tenants s ahead)
          (no_end _, (refl, (le-ltb _ _ (omega arith), (le-ltb _ _ (omega (arith, m, may.moment)), (ap not order, (le-ltb _ _ long, (above _ _ (omega (arith, l, may.few)), (refl, tt))))))));
      some = λ e. absurd (omega (arith, e));
      same = λ i. of_piece (m i) (l i) (bytes i);
      left = ap (λ (k : ℕ). drop k ahead) size ∙ sym (drop-drop (length piece) 13 ahead) ∙ drop_at piece rest (length piece) refl;
    }

-- a record that is spelt ahead, whatever stands behind it
pub again : (tenants : ℕ) (s : Standing) (r : Record) (rest : List ℕ) → tenants < 2 ^ 32 → MayFollow s r → Fits tenants r → Again tenants s r (record_spelling r ++ rest) rest
again tenants s r rest few may fits = by_event tenants s r.moment r.link r.event rest few may fits where
  by_event : (tenants : ℕ) (s : Standing) (moment link : ℕ) (event : Event) (rest : List ℕ) → tenants < 2 ^ 32
      → MayFollow s (record { moment = moment; link = link; event = event }) → Fits tenants (record { moment = moment; link = link; event = event })
      → Again tenants s (record { moment = moment; link = link; event = event }) (record_spelling (record { moment = moment; link = link; event = event }) ++ rest) rest
  by_event tenants s moment link (Begins tenant) rest few may fits = begins_again tenants s moment link tenant rest (omega (arith, may.few)) (omega (arith, few)) may fits
  by_event tenants s moment link (Arrives piece) rest few may fits = piece_again tenants s moment link piece rest (omega (arith, may.few)) may fits
  by_event tenants s moment link Closes rest few may fits = close_again tenants s moment link rest (omega (arith, may.few)) may fits

-- and the end, alone
pub end_again : (tenants : ℕ) (s : Standing) → refusal_ahead tenants s (0 ∷ []) ≡ None
end_again tenants s = refl
