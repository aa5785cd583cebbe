-- An input is whole requests, or it stops at one place, for one cause.
use Rattle.std.proofs.Common.{◌≡◌, refl, sym, subst, ◌∙◌, ap, ℕ, List, [], ◌∷◌, ◌++◌}
use Rattle.std.specs.Prelude.{flat_map, Option, Some, None, IfSome}
use Rattle.std.specs.Io.KnownBytes.{Consumes}
use Rattle.std.specs.List.{AllByRecursion}
use Rattle.std.proofs.lemmas.List.{append_assoc, append-nil}
use Rattle.px_frames.specs.Frames.{frame_of}
use Rattle.px_wire.specs.Laws.{OneSpelling}
use Rattle.px_worker.specs.Answers.{AsksIn, IsRequest, OwesNothing}
use Rattle.px_worker.specs.Stops.{AreRequests, IsBad, HasOthers, place_after, StopsAt}
use Rattle.px_worker.specs.Laws.{OneStop, WholeInputs}
use Rattle.px_worker.proofs.FirstFrames.{no_frame}
use Rattle.px_worker.proofs.AnswerLemmas.{one_job}
use Rattle.px_frames.proofs.CutLemmas.{one_first}

-- ---- what owes nothing

pub nothing_owes : (known : ℕ) (kinds : List ℕ) → OwesNothing known kinds []
nothing_owes known kinds = λ message more is p. no_frame message more is

pub bad_owes : (known : ℕ) (kinds bytes : List ℕ) → IsBad known bytes → OwesNothing known kinds bytes
bad_owes known kinds bytes bad = λ message more is p. bad.no_request message more p.short is p.job p.asks

pub others_owe : OneSpelling → (known : ℕ) (kinds bytes : List ℕ) → HasOthers known kinds bytes → OwesNothing known kinds bytes
others_owe one known kinds bytes o = λ message more is p.
    let first : message ≡ o.message = (one_first bytes message o.message more o.more p.short o.short is o.begins).0 in
    o.others (ap (λ j. j.kinds) (one_job one known o.message o.job p.job o.asks (subst (λ m. AsksIn known m p.job) first p.asks)) ∙ p.own)

-- ---- one place

module _ (known : ℕ) (kinds : List ℕ) where
  one_split_of : (ms ns : List (List ℕ)) (input r s : List ℕ) → AllByRecursion (λ m. IsRequest known kinds m) ms → AllByRecursion (λ m. IsRequest known kinds m) ns →
      input ≡ flat_map frame_of ms ++ r → input ≡ flat_map frame_of ns ++ s → OwesNothing known kinds r → OwesNothing known kinds s → (flat_map frame_of ms ≡ flat_map frame_of ns) × (r ≡ s)
  one_split_of [] [] input r s p q is is' free free' = (refl, sym is ∙ is')
  one_split_of [] (n ∷ ns) input r s p q is is' free free' = absurd (free n (flat_map frame_of ns ++ s) (sym is ∙ is' ∙ append_assoc (frame_of n) (flat_map frame_of ns) s) q.0)
  one_split_of (m ∷ ms) [] input r s p q is is' free free' = absurd (free' m (flat_map frame_of ms ++ r) (sym is' ∙ is ∙ append_assoc (frame_of m) (flat_map frame_of ms) r) p.0)
  one_split_of (m ∷ ms) (n ∷ ns) input r s p q is is' free free' =
      let first : (m ≡ n) × (flat_map frame_of ms ++ r ≡ flat_map frame_of ns ++ s) =
      one_first input m n (flat_map frame_of ms ++ r) (flat_map frame_of ns ++ s) p.0.short q.0.short
      (is ∙ append_assoc (frame_of m) (flat_map frame_of ms) r) (is' ∙ append_assoc (frame_of n) (flat_map frame_of ns) s) in
      let others : (flat_map frame_of ms ≡ flat_map frame_of ns) × (r ≡ s) = one_split_of ms ns (flat_map frame_of ms ++ r) r s p.1 q.1 refl first.1 free free' in
      (ap (λ l. frame_of l ++ flat_map frame_of ms) first.0 ∙ ap (λ l. frame_of n ++ l) others.0, others.1)

  -- whole requests in front are determined, where what follows owes nothing
  one_split : (input a b r s : List ℕ) → AreRequests known kinds a → AreRequests known kinds b → input ≡ a ++ r → input ≡ b ++ s → OwesNothing known kinds r → OwesNothing known kinds s → (a ≡ b) × (r ≡ s)
  one_split input a b r s p q is is' free free' =
      let same : (flat_map frame_of p.messages ≡ flat_map frame_of q.messages) × (r ≡ s) =
      one_split_of p.messages q.messages input r s p.requests q.requests (is ∙ ap (λ l. l ++ r) p.bytes_are) (is' ∙ ap (λ l. l ++ s) q.bytes_are) free free' in
      (p.bytes_are ∙ same.0 ∙ sym q.bytes_are, same.1)

  module _ {P Q : List ℕ → Type 0} (p_owes : (bytes : List ℕ) → P bytes → OwesNothing known kinds bytes) (q_owes : (bytes : List ℕ) → Q bytes → OwesNothing known kinds bytes) where
    both_split : (input : List ℕ) (m n : ℕ) (x : StopsAt known kinds P input m) (y : StopsAt known kinds Q input n) → (x.before ≡ y.before) × (x.rest ≡ y.rest)
    both_split input m n x y =
        one_split input x.before y.before x.rest y.rest x.requests y.requests x.split y.split (p_owes x.rest x.why) (q_owes y.rest y.why)

    pub same_place : (input : List ℕ) (m n : ℕ) → StopsAt known kinds P input m → StopsAt known kinds Q input n → m ≡ n
    same_place input m n x y = x.place_is ∙ ap place_after (both_split input m n x y).0 ∙ sym y.place_is

    pub same_rest : (input : List ℕ) (m n : ℕ) (x : StopsAt known kinds P input m) (y : StopsAt known kinds Q input n) → Q x.rest
    same_rest input m n x y = subst Q (sym (both_split input m n x y).1) y.why

    pub no_rest : (input : List ℕ) (n : ℕ) (x : StopsAt known kinds P input n) → AreRequests known kinds input → x.rest ≡ []
    no_rest input n x whole =
        (one_split input x.before input x.rest [] x.requests whole x.split (sym (append-nil input)) (p_owes x.rest x.why) (nothing_owes known kinds)).1

bad_or_others : (known : ℕ) (kinds bytes : List ℕ) → IsBad known bytes → HasOthers known kinds bytes → ⊥
bad_or_others known kinds bytes bad o = bad.no_request o.message o.more o.short o.begins o.job o.asks

pub stops : OneSpelling → OneStop
stops one = record {
  bad_place = λ known kinds input m n x y. same_place known kinds (bad_owes known kinds) (bad_owes known kinds) input m n x y;
  others_place = λ known kinds input m n x y. same_place known kinds (others_owe one known kinds) (others_owe one known kinds) input m n x y;
  one_cause = λ known kinds input m n x y. bad_or_others known kinds x.rest x.why (same_rest known kinds (bad_owes known kinds) (others_owe one known kinds) input m n x y);
  whole_or_bad = λ known kinds input n whole x. x.why.some (no_rest known kinds (bad_owes known kinds) (bad_owes known kinds) input n x whole);
  whole_or_others = λ known kinds input n whole x.
      no_frame x.why.message x.why.more (sym (no_rest known kinds (others_owe one known kinds) (others_owe one known kinds) input n x whole) ∙ x.why.begins);
}

-- ---- whole inputs

-- what was read and what is left are the input
input_is : (requests read left : List ℕ) (source' : Option (List ℕ)) → Consumes (Some requests) source' read → IfSome source' (λ bytes. bytes ≡ left) → requests ≡ read ++ left
input_is requests read left None took is = absurd took
input_is requests read left (Some bytes) took is = took ∙ ap (λ l. read ++ l) is

pub whole_inputs : OneSpelling → WholeInputs
whole_inputs one = record {
  never_bad = λ known kinds requests source' sink sink' n s whole.
      (stops one).whole_or_bad known kinds requests n whole (subst (λ l. StopsAt known kinds (IsBad known) l n) (sym (input_is requests s.read s.left source' s.took s.left_is)) s.served.0);
  never_others = λ known kinds requests source' sink sink' n s whole.
      (stops one).whole_or_others known kinds requests n whole (subst (λ l. StopsAt known kinds (HasOthers known kinds) l n) (sym (input_is requests s.read s.left source' s.took s.left_is)) s.served.0);
}
