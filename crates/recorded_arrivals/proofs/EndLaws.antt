-- What the end of a connection's stream completes is what the end of a stream gives.
use Rattle.std.proofs.Common.{◌≡◌, ℕ, false, true, List, length, drop, sym, ap, subst, ◌∙◌}
use Rattle.std.proofs.Math.Seq.{drop-append_seam}
use Rattle.http_items.specs.Ends.{IsEnding, EndsAfter}
use Rattle.http_items.specs.Items.{Heard, items}
use Rattle.recording_format.specs.declared.records.Record.{Record}
use Rattle.recorded_arrivals.specs.Arrivals.{bytes_on, complete_on, completed_at_end}

pub ends_connection : ((text : List ℕ) → EndsAfter (items text false) (items text true)) → (link : ℕ) (records : List Record) → IsEnding (completed_at_end link records)
ends_connection ends link records =
    let e = ends (bytes_on link records) in
    let is : completed_at_end link records ≡ e.last =
    ap (λ (hs : List Heard). drop (length (complete_on link records)) hs) e.behind ∙ drop-append_seam (complete_on link records) e.last in
    subst (λ (hs : List Heard). IsEnding hs) (sym is) e.ending
