-- What passes over a link, one after another, and what an exchange leaves of it.
use Rattle.std.proofs.Common.{◌≡◌, refl, sym, subst, ◌∙◌, ap, arith, ℕ, ◌+◌, ◌≤◌, inl, List, [], ◌∷◌, ◌++◌, length, length-append, append_assoc, append-nil, Bool, true, false}
use Rattle.std.specs.Prelude.{◌||◌, Option, Some, None, slice_get}
use Rattle.px_entry.specs.declared.tables.Table.{Table}
use Rattle.px_callgraph.specs.JobTree.{JobTree}
use Rattle.px_frames.specs.Frames.{frame_of, most_bytes}
use Rattle.px_frames.specs.Feeding.{holds}
use Rattle.px_frames.specs.Cutting.{AreFrames}
use Rattle.px_pool.specs.Talks.{Talk, Passes, nothing, followed_by}
use Rattle.px_pool.specs.Words.{IsInStep}
use Rattle.px_pool.specs.Starts.{HasFrames, GaveFrames}
use Rattle.px_pool.specs.LinkLaws.{NewLinksAreInStep, TalksFollow, exchanges, ArePaired, ExchangesKeepStep, WordsAreOfPairs, ExchangesGiveOneFrame, FramesAreGiven}
use Rattle.px_pool.proofs.CountLemmas.{more_frames, one_number}

-- ---- one after another

or_assoc : (a b c : Bool) → (a || b) || c ≡ a || (b || c)
or_assoc true b c = refl
or_assoc false b c = refl

or_false : (a : Bool) → a ≡ a || false
or_false true = refl
or_false false = refl

pub talk_is : (a b : Talk) → a.sent ≡ b.sent → a.given ≡ b.given → a.ended ≡ b.ended → a ≡ b
talk_is a b sent given ended =
    let f : List ℕ → Talk = λ l. record { sent = l; given = a.given; ended = a.ended } in
    let g : List ℕ → Talk = λ l. record { sent = b.sent; given = l; ended = a.ended } in
    let h : Bool → Talk = λ e. record { sent = b.sent; given = b.given; ended = e } in ap f sent ∙ ap g given ∙ ap h ended

pub followed_assoc : (a x y : Talk) → followed_by (followed_by a x) y ≡ followed_by a (followed_by x y)
followed_assoc a x y =
    talk_is (followed_by (followed_by a x) y) (followed_by a (followed_by x y)) (append_assoc a.sent x.sent y.sent) (append_assoc a.given x.given y.given)
    (or_assoc a.ended x.ended y.ended)

pub followed_nothing : (a : Talk) → a ≡ followed_by a nothing
followed_nothing a = talk_is a (followed_by a nothing) (sym (append-nil a.sent)) (sym (append-nil a.given)) (or_false a.ended)

pub passes_nothing : (a : Option Talk) → Passes a a nothing
passes_nothing None = tt
passes_nothing (Some a) = followed_nothing a

pub passes_follow : (a b c : Option Talk) (x y : Talk) → Passes a b x → Passes b c y → Passes a c (followed_by x y)
passes_follow None None None x y p q = tt
passes_follow None None (Some c) x y p q = absurd q
passes_follow None (Some b) c x y p q = absurd p
passes_follow (Some a) None c x y p q = absurd p
passes_follow (Some a) (Some b) None x y p q = absurd q
passes_follow (Some a) (Some b) (Some c) x y p q = q ∙ ap (λ t. followed_by t y) p ∙ followed_assoc a x y

pub talks_follow : TalksFollow
talks_follow = (passes_nothing, passes_follow)

-- ---- frames

-- one frame more
pub frames_more : (bytes : List ℕ) (messages : List (List ℕ)) (message : List ℕ) → AreFrames bytes messages (holds []) → length message ≤ most_bytes →
    AreFrames (bytes ++ frame_of message) (messages ++ message ∷ []) (holds [])
frames_more bytes [] message (part, none) short =
    (short, [], ap (λ l. l ++ frame_of message) none ∙ sym (append-nil (frame_of message)), (inl (omega arith), refl))
frames_more bytes (first ∷ messages) message (short', rest, is, others) short =
    (short', rest ++ frame_of message, ap (λ l. l ++ frame_of message) is ∙ append_assoc (frame_of first) rest (frame_of message), frames_more rest messages message others short)

last_at : (messages : List (List ℕ)) (message : List ℕ) → slice_get (messages ++ message ∷ []) (length messages) ≡ Some message
last_at [] message = refl
last_at (first ∷ messages) message = last_at messages message

one_more : (a b : List (List ℕ)) (x y : List ℕ) → length a ≡ length b → length (a ++ x ∷ []) ≡ length (b ++ y ∷ [])
one_more a b x y same = grind (arith, length-append)

-- ---- exchanges

step_of : (a : Talk) (asked given : List ℕ) → IsInStep (Some a) → length asked ≤ most_bytes → length given ≤ most_bytes →
    IsInStep (Some (followed_by a (exchanges asked given))) × ArePaired (Some (followed_by a (exchanges asked given))) asked given
step_of a asked given (asks, gifts, sent, gave, same, unended) short short' =
    let sent' : AreFrames (a.sent ++ frame_of asked) (asks ++ asked ∷ []) (holds []) = frames_more a.sent asks asked sent short in
    let gave' : AreFrames (a.given ++ frame_of given) (gifts ++ given ∷ []) (holds []) = frames_more a.given gifts given gave short' in (
      (asks ++ asked ∷ [], gifts ++ given ∷ [], sent', gave', one_more asks gifts asked given same, ap (λ e. e || false) unended),
      (
        length asks,
        (asks ++ asked ∷ [], holds [], sent', last_at asks asked),
        (gifts ++ given ∷ [], holds [], gave', subst (λ n. slice_get (gifts ++ given ∷ []) n ≡ Some given) (sym same) (last_at gifts given)),
      ),
    )

pub exchanges_keep_step : ExchangesKeepStep
exchanges_keep_step None None asked given step short short' p = (tt, tt)
exchanges_keep_step None (Some b) asked given step short short' p = absurd p
exchanges_keep_step (Some a) None asked given step short short' p = absurd p
exchanges_keep_step (Some a) (Some b) asked given step short short' p =
    subst (λ t. IsInStep (Some t) × ArePaired (Some t) asked given) (sym p) (step_of a asked given step short short')

pub words_are_of_pairs : (says : JobTree → Table → Type 0) → WordsAreOfPairs says
words_are_of_pairs says None asked given v j t ds kept paired s r = kept j t
words_are_of_pairs says (Some talk) asked given v j t ds kept (n, sent, gave) s r = kept n asked given v j t ds sent gave s r

pub new_in_step : NewLinksAreInStep
new_in_step None fresh = tt
new_in_step (Some t) fresh = subst (λ u. IsInStep (Some u)) (sym fresh) ([], [], (inl (omega arith), refl), (inl (omega arith), refl), refl, refl)

-- ---- whole frames

-- of a link that is in step
counted : (a : Talk) → IsInStep (Some a) → (n : ℕ) × HasFrames a.given n
counted a (asks, gifts, sent, gave, same, unended) = (length gifts, (gifts, holds [], gave, refl))

pub one_frame_more : ExchangesGiveOneFrame
one_frame_more a b asked given n (asks, gifts, sent, gave, same, unended) short p frames =
    let is : length gifts ≡ n = one_number a.given (length gifts) n (gifts, holds [], gave, refl) frames in
    let count : length (gifts ++ given ∷ []) ≡ n + 1 = grind (arith, length-append) in
    subst (λ (t : Talk). HasFrames t.given (n + 1)) (sym p) (gifts ++ given ∷ [], holds [], frames_more a.given gifts given gave short, count)

gave_none : (t : Option Talk) → GaveFrames t 0
gave_none None = tt
gave_none (Some a) = λ m frames. omega arith

gave_later : (a b : Option Talk) (x : Talk) (n : ℕ) → IsInStep a → Passes a b x → GaveFrames a n → GaveFrames b n
gave_later None None x n step p gave = tt
gave_later None (Some b) x n step p gave = absurd p
gave_later (Some a) None x n step p gave = absurd p
gave_later (Some a) (Some b) x n step p gave = λ m frames.
    (let (k, before) = counted a step in
    let few : n ≤ k = gave k before in
    let more : k ≤ m = more_frames a.given x.given k m before (subst (λ (t : Talk). HasFrames t.given m) p frames) in
    omega arith)

pub gave_one_more : (a b : Option Talk) (asked given : List ℕ) (n : ℕ) → IsInStep a → length given ≤ most_bytes → Passes a b (exchanges asked given) →
    GaveFrames a n → GaveFrames b (n + 1)
gave_one_more None None asked given n step short p gave = tt
gave_one_more None (Some b) asked given n step short p gave = absurd p
gave_one_more (Some a) None asked given n step short p gave = absurd p
gave_one_more (Some a) (Some b) asked given n step short p gave = λ m frames.
    (let (k, before) = counted a step in
    let few : n ≤ k = gave k before in
    let is : k + 1 ≡ m = one_number b.given (k + 1) m (one_frame_more a b asked given k step short p before) frames in
    omega arith)

pub frames_are_given : FramesAreGiven
frames_are_given = record { none = gave_none; later = gave_later; exchanged = gave_one_more }
