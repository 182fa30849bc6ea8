-- Each tenant's replies are those that it has alone.
use Rattle.std.proofs.Common.{◌≡◌, ℕ, zero, suc, ◌+◌, ◌^◌, ◌<◌, ◌≤◌, Bool, true, false, cond, ◌==◌, if◌then◌else◌, List, [], ◌∷◌, ◌++◌, length, filter, take, drop, get_or, refl, sym, ap, ap₂, ◌∙◌, arith, length-append}
use Rattle.std.proofs.Math.Seq.{drop-append_seam, take-append_seam}
use Rattle.std.proofs.lemmas.Nat.{from_le_bytes-to_le_bytes_4}
use Rattle.std.specs.Int.{w32, to_le_bytes, from_le_bytes}
use Rattle.recording_format.specs.declared.records.Record.{Record}
use Rattle.recording_format.specs.Connections.{tenants_of}
use Rattle.recording_format.specs.Following.{IsLegal}
use Rattle.serve_config.specs.Configuration.{Configuration}
use Rattle.wasm_meaning.specs.Programs.{Program}
use Rattle.recorded_runner.specs.Alone.{alone}
use Rattle.recorded_runner.specs.Fates.{decided}
use Rattle.recorded_runner.specs.Readings.{replies_ahead, replies_in, those_of, replies_to}
use Rattle.recorded_runner.specs.ReplayText.{answers_magic, connection_text, replies_on, texts_from, replay_text}
use Rattle.recorded_runner.proofs.AloneLaws.{tenants_alone}
use Rattle.recorded_runner.proofs.AloneArrivals.{AreEndings}
use Rattle.recorded_runner.proofs.AloneFates.{replies_alone}
use Rattle.recorded_runner.proofs.NumberLaws.{of_tenant, among, among_next}

-- ---- the text is read back

length_behind : (link : ℕ) (replies more : List ℕ) → drop 4 (connection_text link replies ++ more) ≡ to_le_bytes w32 (length replies) ++ (replies ++ more)
length_behind link replies more = refl

replies_behind : (link : ℕ) (replies more : List ℕ) → drop 8 (connection_text link replies ++ more) ≡ replies ++ more
replies_behind link replies more = refl

length_read : (n : ℕ) (more : List ℕ) → n < 2 ^ 32 → from_le_bytes w32 (to_le_bytes w32 n ++ more) ≡ n
length_read n more few = from_le_bytes-to_le_bytes_4 n few

read_one : (connections link : ℕ) (replies more : List ℕ) → length replies < 2 ^ 32 → replies_ahead (suc connections) (connection_text link replies ++ more) ≡ replies ∷ replies_ahead connections more
read_one connections link replies more few =
    let size : from_le_bytes w32 (drop 4 (connection_text link replies ++ more)) ≡ length replies =
    ap (λ (bytes : List ℕ). from_le_bytes w32 bytes) (length_behind link replies more) ∙ length_read (length replies) (replies ++ more) few in
    ap₂ (λ (n : ℕ) (bytes : List ℕ). take n bytes ∷ replies_ahead connections (drop n bytes)) size (replies_behind link replies more)
    ∙ ap₂ (λ (front rest : List ℕ). front ∷ replies_ahead connections rest) (take-append_seam replies more) (drop-append_seam replies more)

-- what is due to each connection from this link on
abbrev due_from : (link : ℕ) → (owners : List ℕ) → (ℕ → List ℕ) → List (List ℕ)
due_from link [] due = []
due_from link (owner ∷ owners) due = due link ∷ due_from (suc link) owners due

read_all : (link : ℕ) (owners : List ℕ) (due : ℕ → List ℕ) → ((n : ℕ) → n < link + length owners → length (due n) < 2 ^ 32) → replies_ahead (length owners) (texts_from link owners due) ≡ due_from link owners due
read_all link [] due few = refl
read_all link (owner ∷ owners) due few =
    read_one (length owners) link (due link) (texts_from (suc link) owners due) (few link (omega arith))
    ∙ ap (λ (l : List (List ℕ)). due link ∷ l) (read_all (suc link) owners due (λ n below. few n (omega (arith, below))))

-- ---- the tenant's

one_those : (tenant link k : ℕ) (o : ℕ) (os : List ℕ) (due alone_due : ℕ → List ℕ) (b : Bool) → (o == tenant) ≡ b → (b ≡ true → alone_due k ≡ due link) → length (due link) < 2 ^ 32
    → replies_ahead (length (filter (of_tenant tenant) os)) (texts_from (k + (if b then 1 else 0)) (filter (of_tenant tenant) os) alone_due) ≡ those_of tenant os (due_from (suc link) os due)
    → replies_ahead (length (filter (of_tenant tenant) (o ∷ os))) (texts_from k (filter (of_tenant tenant) (o ∷ os)) alone_due) ≡ those_of tenant (o ∷ os) (due_from link (o ∷ os) due)
one_those tenant link k o os due alone_due true e is few more =
    let others = filter (of_tenant tenant) os in
    let same : alone_due k ≡ due link = is refl in
    let next : suc k ≡ k + 1 = omega arith in
    ap (λ (b : Bool). replies_ahead (length (cond b (o ∷ others) others)) (texts_from k (cond b (o ∷ others) others) alone_due)) e
    ∙ ap₂ (λ (bytes : List ℕ) (n : ℕ). replies_ahead (suc (length others)) (connection_text k bytes ++ texts_from n others alone_due)) same next
    ∙ read_one (length others) k (due link) (texts_from (k + 1) others alone_due) few
    ∙ ap (λ (l : List (List ℕ)). due link ∷ l) more
    ∙ sym (ap (λ (b : Bool). if b then due link ∷ those_of tenant os (due_from (suc link) os due) else those_of tenant os (due_from (suc link) os due)) e)
one_those tenant link k o os due alone_due false e is few more =
    let others = filter (of_tenant tenant) os in
    let stays : k ≡ k + 0 = omega arith in
    ap (λ (b : Bool). replies_ahead (length (cond b (o ∷ others) others)) (texts_from k (cond b (o ∷ others) others) alone_due)) e
    ∙ ap (λ (n : ℕ). replies_ahead (length others) (texts_from n others alone_due)) stays
    ∙ more
    ∙ sym (ap (λ (b : Bool). if b then due link ∷ those_of tenant os (due_from (suc link) os due) else those_of tenant os (due_from (suc link) os due)) e)

those_alone : (owners rest : List ℕ) (tenant link k : ℕ) (due alone_due : ℕ → List ℕ) → ((j : ℕ) → get_or rest j 0 ≡ get_or owners (link + j) 0) → link + length rest ≡ length owners → k ≡ among owners tenant link
    → ((n : ℕ) → n < length owners → (get_or owners n 0 == tenant) ≡ true → alone_due (among owners tenant n) ≡ due n) → ((n : ℕ) → n < length owners → length (due n) < 2 ^ 32)
    → replies_ahead (length (filter (of_tenant tenant) rest)) (texts_from k (filter (of_tenant tenant) rest) alone_due) ≡ those_of tenant rest (due_from link rest due)
those_alone owners [] tenant link k due alone_due each many at is few = refl
those_alone owners (o ∷ os) tenant link k due alone_due each many at is few =
    let first : link ≡ link + 0 = omega arith in
    let here : get_or owners link 0 ≡ o = ap (λ (n : ℕ). get_or owners n 0) first ∙ sym (each 0) in
    let below : link < length owners = omega (arith, many) in
    let next : k + (if o == tenant then 1 else 0) ≡ among owners tenant (suc link) =
    ap₂ (λ (n owner : ℕ). n + (if owner == tenant then 1 else 0)) at (sym here) ∙ sym (among_next owners tenant link below) in
    one_those tenant link k o os due alone_due (o == tenant) refl
    (λ owned. ap alone_due at ∙ is link below (ap (λ (n : ℕ). n == tenant) here ∙ owned)) (few link below)
    (those_alone owners os tenant (suc link) (k + (if o == tenant then 1 else 0)) due alone_due (λ j. each (suc j) ∙ ap (λ (n : ℕ). get_or owners n 0) (omega arith)) (omega (arith, many)) next is few)

-- ---- the texts

pub isolated : AreEndings → (c : Configuration) (programs : List Program) (records : List Record) (tenant : ℕ) → IsLegal records
    → ((link : ℕ) → link < length (tenants_of records) → length (replies_on c.tenants programs link (decided c.tenants records)) < 2 ^ 32)
    → replies_to tenant records (replay_text c programs records) ≡ replies_in (alone tenant records) (replay_text c programs (alone tenant records))
unfolding replay_text
isolated ends c programs records tenant legal few =
    let owners = tenants_of records in
    let due = λ (link : ℕ). replies_on c.tenants programs link (decided c.tenants records) in
    let alone_due = λ (link : ℕ). replies_on c.tenants programs link (decided c.tenants (alone tenant records)) in
    ap (λ (l : List (List ℕ)). those_of tenant owners l) (read_all 0 owners due (λ n below. few n (omega (arith, below))))
    ∙ sym (those_alone owners owners tenant 0 0 due alone_due (λ j. ap (λ (n : ℕ). get_or owners n 0) (omega arith)) (omega arith) refl
    (λ n below owned. replies_alone ends c.tenants programs tenant n records legal below owned) few)
    ∙ sym (ap (λ (os : List ℕ). replies_ahead (length os) (texts_from 0 os alone_due)) (tenants_alone tenant records legal))

-- ---- a text that is short has short parts

part_few : (link : ℕ) (owners : List ℕ) (due : ℕ → List ℕ) (k : ℕ) → k < length owners → length (due (link + k)) ≤ length (texts_from link owners due)
part_few link [] due k below = absurd (omega (arith, below))
part_few link (owner ∷ owners) due zero below =
    let first : link + 0 ≡ link = omega arith in
    omega (arith, ap (λ (n : ℕ). length (due n)) first, length-append (connection_text link (due link)) (texts_from (suc link) owners due), front_few link (due link))
  where
    front_few : (link : ℕ) (replies : List ℕ) → length (connection_text link replies) ≡ 8 + length replies
    front_few link replies = let counted : suc (suc (suc (suc (suc (suc (suc (suc (length replies)))))))) ≡ 8 + length replies = omega arith in counted
part_few link (owner ∷ owners) due (suc k) below =
    let next : link + suc k ≡ suc link + k = omega arith in
    omega (
      arith,
      ap (λ (n : ℕ). length (due n)) next,
      length-append (connection_text link (due link)) (texts_from (suc link) owners due),
      part_few (suc link) owners due k (omega (arith, below)),
    )

texts_fit : (c : Configuration) (programs : List Program) (records : List Record) (link : ℕ) → link < length (tenants_of records)
    → length (replies_on c.tenants programs link (decided c.tenants records)) ≤ length (replay_text c programs records)
unfolding replay_text
texts_fit c programs records link below =
    let due = λ (n : ℕ). replies_on c.tenants programs n (decided c.tenants records) in
    let first : 0 + link ≡ link = omega arith in
    omega (
      arith,
      ap (λ (n : ℕ). length (due n)) first,
      length-append answers_magic (texts_from 0 (tenants_of records) due),
      part_few 0 (tenants_of records) due link below,
    )

pub isolated_whole : AreEndings → (c : Configuration) (programs : List Program) (records : List Record) (tenant : ℕ) → IsLegal records → length (replay_text c programs records) < 2 ^ 32
    → replies_to tenant records (replay_text c programs records) ≡ replies_in (alone tenant records) (replay_text c programs (alone tenant records))
isolated_whole ends c programs records tenant legal few =
    isolated ends c programs records tenant legal (λ link below. omega (arith, few, texts_fit c programs records link below))
