-- Records, one behind another: how matters stand behind them, and that they follow one another.
use Rattle.std.proofs.Common.{◌≡◌, ℕ, ◌<◌, ◌≤◌, Bool, true, false, List, [], ◌∷◌, ◌++◌, length, refl, sym, ap, ◌∙◌, arith, length-append, length-set}
use Rattle.recording_format.specs.declared.records.Event.{Event}
use Rattle.recording_format.specs.declared.records.Event.TheVariants.{Begins, Arrives, Closes}
use Rattle.recording_format.specs.declared.records.Record.{Record}
use Rattle.recording_format.specs.Standing.{Standing, beginning, links_behind, behind, behind_all, standing_behind}
use Rattle.recording_format.specs.Following.{most_connections, LinkFollows, MayFollow, Follow, IsLegal}

pub behind_all-append : (s : Standing) (rs : List Record) (r : Record) → behind_all s (rs ++ r ∷ []) ≡ behind (behind_all s rs) r
behind_all-append s [] r = refl
behind_all-append s (q ∷ rs) r = behind_all-append (behind s q) rs r

pub Follow-append : (s : Standing) (rs : List Record) (r : Record) → Follow s rs → MayFollow (behind_all s rs) r → Follow s (rs ++ r ∷ [])
Follow-append s [] r follow may = (may, tt)
Follow-append s (q ∷ rs) r follow may = (follow.0, Follow-append (behind s q) rs r follow.1 may)

-- a record more, and how matters stand behind it
pub pushed : (rs : List Record) (r : Record) (s : Standing) (links : List Bool) → IsLegal rs → MayFollow (standing_behind rs) r → standing_behind rs ≡ s → links ≡ links_behind s.links r.link r.event
    → IsLegal (rs ++ r ∷ []) × (standing_behind (rs ++ r ∷ []) ≡ record { last = r.moment; links = links })
pushed rs r s links legal may is told =
    let now : standing_behind (rs ++ r ∷ []) ≡ behind s r = behind_all-append beginning rs r ∙ ap (λ (t : Standing). behind t r) is in
    (Follow-append beginning rs r legal may, now ∙ ap (λ (these : List Bool). record { last = r.moment; links = these }) (sym told))

-- a record that may follow leaves few connections
few_behind : (links : List Bool) (link : ℕ) (event : Event) → length links ≤ most_connections → LinkFollows links link event → link < most_connections
    → length (links_behind links link event) ≤ most_connections
few_behind links link (Begins tenant) few follows below = omega (arith, length-append links (true ∷ []), follows, below)
few_behind links link (Arrives piece) few follows below = few
few_behind links link Closes few follows below = omega (arith, length-set links link false, few)

few_links : (s : Standing) (rs : List Record) → Follow s rs → length s.links ≤ most_connections → length (behind_all s rs).links ≤ most_connections
few_links s [] follow few = few
few_links s (r ∷ rs) follow few =
    let may = follow.0 in
    few_links (behind s r) rs follow.1 (few_behind s.links r.link r.event few may.link may.few)

-- a recording has few connections
pub few_connections : (rs : List Record) → IsLegal rs → length (standing_behind rs).links ≤ most_connections
few_connections rs legal = few_links beginning rs legal (omega arith)
