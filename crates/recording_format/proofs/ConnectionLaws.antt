-- What a record more does to the connections of a recording.
use Rattle.std.proofs.Common.{◌≡◌, ℕ, zero, suc, ◌+◌, ◌<◌, ◌≤◌, Bool, true, false, ◌==◌, if◌then◌else◌, List, [], ◌∷◌, ◌++◌, length, refl, sym, ap, ◌∙◌, arith, append_assoc, length-append, length-set, eq-eqb}
use Rattle.std.proofs.lemmas.Grind.{flat_map-append}
use Rattle.std.proofs.lemmas.List.{append-nil}
use Rattle.recording_format.specs.declared.records.Event.{Event}
use Rattle.recording_format.specs.declared.records.Event.TheVariants.{Begins, Arrives, Closes}
use Rattle.recording_format.specs.declared.records.Record.{Record}
use Rattle.recording_format.specs.Standing.{Standing, beginning, links_behind, behind, behind_all, standing_behind}
use Rattle.recording_format.specs.Following.{is_open, LinkFollows, MayFollow, Follow, IsLegal}
use Rattle.recording_format.specs.Connections.{Arrival, Connection, piece_in, tenant_in, pieces_from, tenants_of, connections_from, connections_of, with_piece_at, with_event, with_record}

-- ---- how many there are

begun_more : (links : List Bool) (link : ℕ) (event : Event) → length (links_behind links link event) ≡ length links + length (tenant_in event)
begun_more links link (Begins tenant) = length-append links (true ∷ [])
begun_more links link (Arrives piece) = omega arith
begun_more links link Closes = omega (arith, length-set links link false)

tenants_more : (r : Record) (rs : List Record) → length (tenants_of (r ∷ rs)) ≡ length (tenant_in r.event) + length (tenants_of rs)
tenants_more r rs = length-append (tenant_in r.event) (tenants_of rs)

begun_from : (s : Standing) (rs : List Record) → length (behind_all s rs).links ≡ length s.links + length (tenants_of rs)
begun_from s [] = omega arith
begun_from s (r ∷ rs) = omega (arith, begun_from (behind s r) rs, begun_more s.links r.link r.event, tenants_more r rs)

-- as many tenants as connections have begun
pub begun : (rs : List Record) → length (standing_behind rs).links ≡ length (tenants_of rs)
begun rs = omega (arith, begun_from beginning rs)

length-connections_from : (link : ℕ) (tenants : List ℕ) (rs : List Record) → length (connections_from link tenants rs) ≡ length tenants
length-connections_from link [] rs = refl
length-connections_from link (tenant ∷ tenants) rs = ap suc (length-connections_from (suc link) tenants rs)

pub as_many : (rs : List Record) → length (connections_of rs) ≡ length (standing_behind rs).links
as_many rs = length-connections_from 0 (tenants_of rs) rs ∙ sym (begun rs)

-- ---- no piece arrives before its connection begins

open_begun : (links : List Bool) (link : ℕ) → is_open links link ≡ true → link < length links
open_begun [] link is = absurd cc
open_begun (x ∷ links) zero is = omega arith
open_begun (x ∷ links) (suc link) is = omega (arith, open_begun links link is)

link_begun : (links : List Bool) (link : ℕ) (event : Event) → LinkFollows links link event → link < length (links_behind links link event)
link_begun links link (Begins tenant) follows = omega (arith, length-append links (true ∷ []), follows)
link_begun links link (Arrives piece) follows = open_begun links link follows
link_begun links link Closes follows = omega (arith, open_begun links link follows, length-set links link false)

not_equal : (m n : ℕ) → m < n → (m == n) ≡ false
not_equal m n lt = grind (arith, lt)

not_chosen : {A : Type 0} (b : Bool) (x y : A) → b ≡ false → (if b then x else y) ≡ y
not_chosen true x y e = absurd cc
not_chosen false x y e = refl

above_not_equal : (m n : ℕ) → n < m → (m == n) ≡ false
above_not_equal m n lt = grind (arith, lt)

chosen : {A : Type 0} (b : Bool) (x y : A) → b ≡ true → (if b then x else y) ≡ x
chosen true x y e = refl
chosen false x y e = absurd cc

none_yet : (number link : ℕ) (s : Standing) (rs : List Record) → Follow s rs → length (behind_all s rs).links ≤ link → pieces_from number link rs ≡ []
none_yet number link s [] follow few = refl
none_yet number link s (r ∷ rs) follow few =
    let may = follow.0 in
    let lt : r.link < link = omega (arith, link_begun s.links r.link r.event may.link, begun_from (behind s r) rs, few) in
    ap (λ (front : List Arrival). front ++ pieces_from (suc number) link rs) (not_chosen (r.link == link) (piece_in number r.moment r.event) [] (not_equal r.link link lt))
    ∙ none_yet (suc number) link (behind s r) rs follow.1 few

-- ---- one record more

-- the piece of a record on a link, where it is one
abbrev piece_on : (number link : ℕ) → Record → List Arrival
piece_on number link r = if r.link == link then piece_in number r.moment r.event else []

pieces_from-append : (number link : ℕ) (rs : List Record) (r : Record) → pieces_from number link (rs ++ r ∷ []) ≡ pieces_from number link rs ++ piece_on (number + length rs) link r
pieces_from-append number link [] r =
    let same : number ≡ number + 0 = omega arith in
    append-nil (piece_on number link r) ∙ ap (λ (n : ℕ). piece_on n link r) same
pieces_from-append number link (q ∷ rs) r =
    let front = piece_on number link q in
    let same : suc number + length rs ≡ number + suc (length rs) = omega arith in
    ap (λ (more : List Arrival). front ++ more) (pieces_from-append (suc number) link rs r)
    ∙ sym (append_assoc front (pieces_from (suc number) link rs) (piece_on (suc number + length rs) link r))
    ∙ ap (λ (n : ℕ). (front ++ pieces_from (suc number) link rs) ++ piece_on n link r) same

-- a record that has no piece for these links changes none of them
unchanged : (link : ℕ) (tenants : List ℕ) (rs : List Record) (r : Record) → ((l : ℕ) → link ≤ l → piece_on (length rs) l r ≡ []) → connections_from link tenants (rs ++ r ∷ []) ≡ connections_from link tenants rs
unchanged link [] rs r none = refl
unchanged link (tenant ∷ tenants) rs r none =
    let same : length rs ≡ 0 + length rs = omega arith in
    let nothing : piece_on (0 + length rs) link r ≡ [] = ap (λ (n : ℕ). piece_on n link r) (sym same) ∙ none link (omega arith) in
    let pieces : pieces_from 0 link (rs ++ r ∷ []) ≡ pieces_from 0 link rs =
    pieces_from-append 0 link rs r ∙ ap (λ (more : List Arrival). pieces_from 0 link rs ++ more) nothing ∙ append-nil (pieces_from 0 link rs) in
    let others = unchanged (suc link) tenants rs r (λ l above. none l (omega (arith, above))) in
    λ i. record { tenant = tenant; pieces = pieces i } ∷ others i

no_choice : {A : Type 0} (b : Bool) (x : A) → (if b then x else x) ≡ x
no_choice true x = refl
no_choice false x = refl

-- a piece more is one of its link, and of no other
piece_more : (link : ℕ) (tenants : List ℕ) (rs : List Record) (moment k : ℕ) (piece : List ℕ)
    → connections_from link tenants (rs ++ record { moment = moment; link = link + k; event = Arrives piece } ∷ [])
    ≡ with_piece_at k (connections_from link tenants rs) (record { number = length rs; moment = moment; bytes = piece })
piece_more link [] rs moment k piece = refl
piece_more link (tenant ∷ tenants) rs moment zero piece =
    let r : Record = record { moment = moment; link = link + 0; event = Arrives piece } in
    let a : Arrival = record { number = length rs; moment = moment; bytes = piece } in
    let here : (link + 0 == link) ≡ true = eq-eqb _ _ (omega arith) in
    let same : 0 + length rs ≡ length rs = omega arith in
    let on : piece_on (0 + length rs) link r ≡ a ∷ [] = ap (λ (n : ℕ). piece_on n link r) same ∙ chosen (link + 0 == link) (a ∷ []) [] here in
    let pieces : pieces_from 0 link (rs ++ r ∷ []) ≡ pieces_from 0 link rs ++ a ∷ [] = pieces_from-append 0 link rs r ∙ ap (λ (more : List Arrival). pieces_from 0 link rs ++ more) on in
    let others = unchanged (suc link) tenants rs r (λ l above. not_chosen (link + 0 == l) (a ∷ []) [] (not_equal (link + 0) l (omega (arith, above)))) in
    λ i. record { tenant = tenant; pieces = pieces i } ∷ others i
piece_more link (tenant ∷ tenants) rs moment (suc k) piece =
    let r : Record = record { moment = moment; link = link + suc k; event = Arrives piece } in
    let a : Arrival = record { number = length rs; moment = moment; bytes = piece } in
    let elsewhere : (link + suc k == link) ≡ false = above_not_equal (link + suc k) link (omega arith) in
    let same : 0 + length rs ≡ length rs = omega arith in
    let on : piece_on (0 + length rs) link r ≡ [] = ap (λ (n : ℕ). piece_on n link r) same ∙ not_chosen (link + suc k == link) (a ∷ []) [] elsewhere in
    let pieces : pieces_from 0 link (rs ++ r ∷ []) ≡ pieces_from 0 link rs = pieces_from-append 0 link rs r ∙ ap (λ (more : List Arrival). pieces_from 0 link rs ++ more) on ∙ append-nil (pieces_from 0 link rs) in
    let next : link + suc k ≡ suc link + k = omega arith in
    let others = ap (λ (l : ℕ). connections_from (suc link) tenants (rs ++ record { moment = moment; link = l; event = Arrives piece } ∷ [])) next ∙ piece_more (suc link) tenants rs moment k piece in
    λ i. record { tenant = tenant; pieces = pieces i } ∷ others i

-- a tenant more is one connection more, with the next link
connections_from-append : (link : ℕ) (tenants : List ℕ) (tenant : ℕ) (rs : List Record)
    → connections_from link (tenants ++ tenant ∷ []) rs ≡ connections_from link tenants rs ++ record { tenant = tenant; pieces = pieces_from 0 (link + length tenants) rs } ∷ []
connections_from-append link [] tenant rs =
    let same : link ≡ link + 0 = omega arith in
    ap (λ (l : ℕ). record { tenant = tenant; pieces = pieces_from 0 l rs } ∷ []) same
connections_from-append link (t ∷ tenants) tenant rs =
    let first : Connection = record { tenant = t; pieces = pieces_from 0 link rs } in
    let same : suc link + length tenants ≡ link + suc (length tenants) = omega arith in
    ap (λ (others : List Connection). first ∷ others) (connections_from-append (suc link) tenants tenant rs)
    ∙ ap (λ (l : ℕ). first ∷ (connections_from (suc link) tenants rs ++ record { tenant = tenant; pieces = pieces_from 0 l rs } ∷ [])) same

tenants-append : (rs : List Record) (r : Record) → tenants_of (rs ++ r ∷ []) ≡ tenants_of rs ++ (tenant_in r.event ++ [])
tenants-append rs r = flat_map-append (λ (q : Record). tenant_in q.event) rs (r ∷ [])

begins : (rs : List Record) (moment link tenant : ℕ) → IsLegal rs → MayFollow (standing_behind rs) (record { moment = moment; link = link; event = Begins tenant })
    → connections_of (rs ++ record { moment = moment; link = link; event = Begins tenant } ∷ []) ≡ connections_of rs ++ record { tenant = tenant; pieces = [] } ∷ []
begins rs moment link tenant legal may =
    let r : Record = record { moment = moment; link = link; event = Begins tenant } in
    let tenants = tenants_of rs in
    let nothing : (l : ℕ) → piece_on (length rs) l r ≡ [] = λ l. no_choice (link == l) [] in
    let new : pieces_from 0 (0 + length tenants) (rs ++ r ∷ []) ≡ [] =
    pieces_from-append 0 (0 + length tenants) rs r
    ∙ ap (λ (more : List Arrival). pieces_from 0 (0 + length tenants) rs ++ more) (no_choice (link == (0 + length tenants)) [])
    ∙ append-nil (pieces_from 0 (0 + length tenants) rs)
    ∙ none_yet 0 (0 + length tenants) beginning rs legal (omega (arith, begun rs)) in
    ap (λ (these : List ℕ). connections_from 0 these (rs ++ r ∷ [])) (tenants-append rs r)
    ∙ connections_from-append 0 tenants tenant (rs ++ r ∷ [])
    ∙ ap (λ (others : List Connection). others ++ record { tenant = tenant; pieces = pieces_from 0 (0 + length tenants) (rs ++ r ∷ []) } ∷ []) (unchanged 0 tenants rs r (λ l above. nothing l))
    ∙ ap (λ (pieces : List Arrival). connections_of rs ++ record { tenant = tenant; pieces = pieces } ∷ []) new

arrives : (rs : List Record) (moment link : ℕ) (piece : List ℕ)
    → connections_of (rs ++ record { moment = moment; link = link; event = Arrives piece } ∷ []) ≡ with_piece_at link (connections_of rs) (record { number = length rs; moment = moment; bytes = piece })
arrives rs moment link piece =
    let r : Record = record { moment = moment; link = link; event = Arrives piece } in
    let same : link ≡ 0 + link = omega arith in
    ap (λ (these : List ℕ). connections_from 0 these (rs ++ r ∷ [])) (tenants-append rs r ∙ append-nil (tenants_of rs))
    ∙ ap (λ (l : ℕ). connections_from 0 (tenants_of rs) (rs ++ record { moment = moment; link = l; event = Arrives piece } ∷ [])) same
    ∙ piece_more 0 (tenants_of rs) rs moment link piece

closes : (rs : List Record) (moment link : ℕ) → connections_of (rs ++ record { moment = moment; link = link; event = Closes } ∷ []) ≡ connections_of rs
closes rs moment link =
    let r : Record = record { moment = moment; link = link; event = Closes } in
    ap (λ (these : List ℕ). connections_from 0 these (rs ++ r ∷ [])) (tenants-append rs r ∙ append-nil (tenants_of rs))
    ∙ unchanged 0 (tenants_of rs) rs r (λ l above. no_choice (link == l) [])

-- what a record more does to the connections
pub one_more : (rs : List Record) (r : Record) → IsLegal rs → MayFollow (standing_behind rs) r → connections_of (rs ++ r ∷ []) ≡ with_record (length rs) (connections_of rs) r
one_more rs r legal may = by_event rs r.moment r.link r.event legal may where
  by_event : (rs : List Record) (moment link : ℕ) (event : Event) → IsLegal rs → MayFollow (standing_behind rs) (record { moment = moment; link = link; event = event })
      → connections_of (rs ++ record { moment = moment; link = link; event = event } ∷ []) ≡ with_event (length rs) moment link (connections_of rs) event
  by_event rs moment link (Begins tenant) legal may = begins rs moment link tenant legal may
  by_event rs moment link (Arrives piece) legal may = arrives rs moment link piece
  by_event rs moment link Closes legal may = closes rs moment link
