-- One request more of the load.
use Rattle.std.proofs.Common.{◌≡◌, ℕ, ◌+◌, ◌/◌, ◌%◌, List, [], ◌∷◌, ◌++◌, sym, ap, ◌∙◌, arith, add-one, append_assoc}
use Rattle.std.proofs.lemmas.List.FromFn.{map-range_with_len_more}
use Rattle.recording_format.specs.declared.records.Event.TheVariants.{Arrives}
use Rattle.recording_format.specs.declared.records.Record.{Record}
use Rattle.generated_load.specs.Generator.{next_state, state_after, drawn_at, drawn}
use Rattle.generated_load.specs.Requests.{request_of}
use Rattle.generated_load.specs.Recording.{arrival_of, arrivals, beginnings}

-- a step of the generator
pub one_step : (start place state after : ℕ) → state ≡ state_after start place → after ≡ next_state state → after ≡ state_after start (place + 1)
one_step start place state after is step = step ∙ ap next_state is ∙ ap (λ (n : ℕ). state_after start n) (sym (add-one place))

-- what is drawn by it
pub drawn_there : (start place state after result : ℕ) → state ≡ state_after start place → after ≡ next_state state → result ≡ drawn_at after → result ≡ drawn start place
drawn_there start place state after result is step told = told ∙ ap drawn_at (step ∙ ap next_state is)

pub one_more_arrival : (start links place : ℕ) (piece : List ℕ) (rs : List Record) → rs ≡ beginnings links ++ arrivals start links place → piece ≡ request_of (drawn start place)
    → rs ++ record { moment = place / 8; link = place % links; event = Arrives piece } ∷ [] ≡ beginnings links ++ arrivals start links (place + 1)
one_more_arrival start links place piece rs are is =
    ap (λ (qs : List Record). qs ++ record { moment = place / 8; link = place % links; event = Arrives piece } ∷ []) are
    ∙ append_assoc (beginnings links) (arrivals start links place) (record { moment = place / 8; link = place % links; event = Arrives piece } ∷ [])
    ∙ ap (λ (p : List ℕ). beginnings links ++ (arrivals start links place ++ record { moment = place / 8; link = place % links; event = Arrives p } ∷ [])) is
    ∙ ap (λ (qs : List Record). beginnings links ++ qs) (sym (map-range_with_len_more (arrival_of start links) 0 place place (omega arith)))
