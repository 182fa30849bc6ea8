-- What is served in parts is served whole.
use Rattle.std.proofs.Common.{◌≡◌, ◌⊎◌, inl, inr, ℕ, Bool, true, false, List, [], ◌∷◌, ◌++◌, Option, None, Some, take, length, refl, sym, ap, ◌∙◌, append_assoc, append-nil, subst, ◌<◌, ◌+◌, arith, length-append, codes, decimal}
use Rattle.admission.specs.declared.meters.Admission.{Admission}
use Rattle.admission.specs.declared.meters.Admission.TheVariants.{Entered, Spent}
use Rattle.http_front.specs.Reply.{allow_line, body_of, close_line, content_type_of, head_of, header_line, reply_of, sent, status_line, status_of}
use Rattle.http_front.specs.Reported.{Reported}
use Rattle.http_items.specs.Items.{Heard, keeps}
use Rattle.tenant_meters.specs.declared.callers.Call.{Call}
use Rattle.link_sessions.specs.Services.{Service, answered_text, refused_text, route_of}
use Rattle.link_sessions.specs.Serving.{Begins, BeginsBy, Doing, Part, Replies, RepliesBy, Whole}

-- a whole text, with more done behind it
whole_then : (text : List ℕ) (next next' : Doing) (cs cs' : List Call) (w w' : List ℕ) →
    ((v : List ℕ) → next cs v → next' (cs ++ cs') (v ++ w')) → Whole text next cs w → Whole text next' (cs ++ cs') (w ++ w')
whole_then text next next' cs cs' w w' onward all = record {
  rest = all.rest ++ w';
  split = ap (λ v. v ++ w') all.split ∙ append_assoc text all.rest w';
  next = onward all.rest all.next;
}

replies_then_by : (s : Service) (item : Heard) (route : Option ℕ) (next next' : Doing) (cs cs' : List Call) (w w' : List ℕ) →
    ((us : List Call) (v : List ℕ) → next us v → next' (us ++ cs') (v ++ w')) → RepliesBy s item route next cs w → BeginsBy s item route next' (cs ++ cs') (w ++ w')
replies_then_by s item None next next' cs cs' w w' onward all = inr (whole_then (refused_text item) next next' cs cs' w w' (onward cs) all)
replies_then_by s item (Some route) next next' [] cs' w w' onward all = absurd all
replies_then_by s item (Some route) next next' (c ∷ cs) cs' w w' onward all =
    (all.0, inr (whole_then (answered_text s route item c.answer) next next' cs cs' w w' (onward cs) all.1))

-- all replies to some items, and then some to those behind
pub replies_then : (s : Service) (items more : List Heard) (cs cs' : List Call) (w w' : List ℕ) →
    Replies s items cs w → Begins s more cs' w' → Begins s (items ++ more) (cs ++ cs') (w ++ w')
replies_then s [] more cs cs' w w' all some = rw all.0 (rw all.1 some)
replies_then s (item ∷ items) more cs cs' w w' all some =
    replies_then_by s item (route_of s item) (Replies s items) (Begins s (items ++ more)) cs cs' w w'
    (λ us v done. replies_then s items more us cs' v w' done some) all

replies_all_by : (s : Service) (item : Heard) (route : Option ℕ) (next next' : Doing) (cs cs' : List Call) (w w' : List ℕ) →
    ((us : List Call) (v : List ℕ) → next us v → next' (us ++ cs') (v ++ w')) → RepliesBy s item route next cs w → RepliesBy s item route next' (cs ++ cs') (w ++ w')
replies_all_by s item None next next' cs cs' w w' onward all = whole_then (refused_text item) next next' cs cs' w w' (onward cs) all
replies_all_by s item (Some route) next next' [] cs' w w' onward all = absurd all
replies_all_by s item (Some route) next next' (c ∷ cs) cs' w w' onward all =
    (all.0, whole_then (answered_text s route item c.answer) next next' cs cs' w w' (onward cs) all.1)

-- all replies to some items, and then all to those behind
pub replies_all : (s : Service) (items more : List Heard) (cs cs' : List Call) (w w' : List ℕ) →
    Replies s items cs w → Replies s more cs' w' → Replies s (items ++ more) (cs ++ cs') (w ++ w')
replies_all s [] more cs cs' w w' all some = rw all.0 (rw all.1 some)
replies_all s (item ∷ items) more cs cs' w w' all some =
    replies_all_by s item (route_of s item) (Replies s items) (Replies s (items ++ more)) cs cs' w w'
    (λ us v done. replies_all s items more us cs' v w' done some) all

whole_more : (text : List ℕ) (next next' : Doing) (cs : List Call) (w : List ℕ) →
    ((v : List ℕ) → next cs v → next' cs v) → Whole text next cs w → Whole text next' cs w
whole_more text next next' cs w onward all = record { rest = all.rest; split = all.split; next = onward all.rest all.next }

either_more : (text : List ℕ) (next next' : Doing) (cs : List Call) (w : List ℕ) →
    ((v : List ℕ) → next cs v → next' cs v) → Part text cs w ⊎ Whole text next cs w → Part text cs w ⊎ Whole text next' cs w
either_more text next next' cs w onward (inl part) = inl part
either_more text next next' cs w onward (inr all) = inr (whole_more text next next' cs w onward all)

begins_more_by : (s : Service) (item : Heard) (route : Option ℕ) (next next' : Doing) (cs : List Call) (w : List ℕ) →
    ((us : List Call) (v : List ℕ) → next us v → next' us v) → BeginsBy s item route next cs w → BeginsBy s item route next' cs w
begins_more_by s item None next next' cs w onward some = either_more (refused_text item) next next' cs w (onward cs) some
begins_more_by s item (Some route) next next' [] w onward some = some
begins_more_by s item (Some route) next next' (c ∷ cs) w onward some =
    (some.0, either_more (answered_text s route item c.answer) next next' cs w (onward cs) some.1)

nothing_by : (s : Service) (item : Heard) (route : Option ℕ) (next : Doing) → BeginsBy s item route next [] []
nothing_by s item None next = inl (record { count = 0; front = refl; last = refl })
nothing_by s item (Some route) next = refl

-- to none of some items a reply was begun
pub begins_nothing : (s : Service) (items : List Heard) → Begins s items [] []
begins_nothing s [] = (refl, refl)
begins_nothing s (item ∷ items) = nothing_by s item (route_of s item) (Begins s items)

-- what was begun of some items was begun of these and those behind
pub begins_more : (s : Service) (items more : List Heard) (cs : List Call) (w : List ℕ) → Begins s items cs w → Begins s (items ++ more) cs w
begins_more s [] more cs w some = rw some.0 (rw some.1 (begins_nothing s more))
begins_more s (item ∷ items) more cs w some =
    begins_more_by s item (route_of s item) (Begins s items) (Begins s (items ++ more)) cs w (λ us v. begins_more s items more us v) some

-- all replies are a beginning
pub replies_begin : (s : Service) (items : List Heard) (cs : List Call) (w : List ℕ) → Replies s items cs w → Begins s items cs w
replies_begin s items cs w all =
    let whole = replies_then s items [] cs [] w [] all (refl, refl) in
    subst (λ is. Begins s is cs w) (append-nil items)
    (subst (λ us. Begins s (items ++ []) us w) (append-nil cs) (subst (λ v. Begins s (items ++ []) (cs ++ []) v) (append-nil w) whole))

part_by : (s : Service) (item : Heard) (route : Option ℕ) (cs : List Call) (text : List ℕ) (count : ℕ) →
    RepliesBy s item route (Replies s []) cs text → BeginsBy s item route (Begins s []) cs (take count text)
part_by s item None cs text count all =
    inl (record { count = count; front = ap (take count) (all.split ∙ ap (λ v. refused_text item ++ v) all.next.1 ∙ append-nil (refused_text item)); last = all.next.0 })
part_by s item (Some route) [] text count all = absurd all
part_by s item (Some route) (c ∷ cs) text count all =
    (all.0, inl (record { count = count; front = ap (take count) (all.1.split ∙ ap (λ v. answered_text s route item c.answer ++ v) all.1.next.1 ∙ append-nil (answered_text s route item c.answer)); last = all.1.next.0 }))

-- a part of the one text
pub part_of_text : (s : Service) (item : Heard) (cs : List Call) (text : List ℕ) (count : ℕ) → Replies s (item ∷ []) cs text → Begins s (item ∷ []) cs (take count text)
part_of_text s item cs text count all = part_by s item (route_of s item) cs text count all

-- No reply is empty.

ends_some : (a : List ℕ) → 0 < length (a ++ codes "\r\n")
ends_some a = let two : length (codes "\r\n") ≡ 2 = refl in omega (arith, two, length-append a (codes "\r\n"))

front_some : (a b : List ℕ) → 0 < length a → 0 < length (a ++ b)
front_some a b some = omega (arith, some, length-append a b)

head_some : (status : ℕ) (type : List ℕ) (size : ℕ) (keep : Bool) → 0 < length (head_of status type size keep)
unfolding head_of
head_some status type size keep =
    ends_some (status_line status ++ allow_line status ++ header_line (codes "Content-Type") type ++ header_line (codes "Content-Length") (decimal size) ++ close_line keep)

reply_some : (r : Reported) (route : List ℕ) (head keep : Bool) → 0 < length (reply_of r route head keep)
unfolding reply_of
reply_some r route head keep =
    front_some (head_of (status_of r) (content_type_of r route) (length (body_of r)) keep) (sent head (body_of r)) (head_some (status_of r) (content_type_of r route) (length (body_of r)) keep)

answered_some : (s : Service) (route : ℕ) (item : Heard) (answer : Admission) → 0 < length (answered_text s route item answer)
answered_some s route item Entered = reply_some _ _ _ _
answered_some s route item (Spent level estimate capacity) = reply_some _ _ _ _

whole_some : (text : List ℕ) (next : Doing) (cs : List Call) (w : List ℕ) → 0 < length text → Whole text next cs w → 0 < length w
whole_some text next cs w some all = subst (λ v. 0 < length v) (sym all.split) (front_some text all.rest some)

replies_some_by : (s : Service) (item : Heard) (route : Option ℕ) (next : Doing) (cs : List Call) (w : List ℕ) → RepliesBy s item route next cs w → 0 < length w
replies_some_by s item None next cs w all = whole_some (refused_text item) next cs w (reply_some _ _ _ _) all
replies_some_by s item (Some route) next [] w all = absurd all
replies_some_by s item (Some route) next (c ∷ cs) w all = whole_some (answered_text s route item c.answer) next cs w (answered_some s route item c.answer) all.1

not_nothing : (before : List Heard) (last : Heard) → [] ≡ before ++ last ∷ [] → ⊥
not_nothing [] last e = cc
not_nothing (b ∷ before) last e = cc

-- replies to items of which there is a last one are not empty
pub replies_some : (s : Service) (items before : List Heard) (last : Heard) (cs : List Call) (w : List ℕ) → items ≡ before ++ last ∷ [] → Replies s items cs w → 0 < length w
replies_some s [] before last cs w e all = absurd (not_nothing before last e)
replies_some s (item ∷ items) before last cs w e all = replies_some_by s item (route_of s item) (Replies s items) cs w all
