-- What `clap` makes of one word.
use Rattle.std.proofs.Common.{◌≡◌, ◌∙◌, ◌&&◌, ℕ, Bool, cond, true, false, refl, sym, ap, ap₂, arith, List, [], ◌∷◌, Option, Some, None, codes, true≢false}
use Rattle.std.proofs.lemmas.Str.{chars-encodes, IsUtf8-drop, IsCharBoundary-after_ascii}
use Rattle.std.specs.Prelude.{slice_get, encode_utf8_all}
use Rattle.std.specs.Str.{bytes_eq, chars, IsUtf8}
use Rattle.clap.specs.Lexer.{long_of, short_of}
use Rattle.clap.specs.Kinds.{Kinds, or_else}
use Rattle.clap.specs.Walk.{Held, Waiting, idle, option, positional, Step, trailing, Walk, after_step, walked, word_met, subcommand_met, subcommand_or_other, long_or_other, short_or_plain, long_word, plain_word, arg_by_long}
use Rattle.clap.specs.Faults.{turn_fault, word_fault, other_fault, flag_word_fault, step_fault, long_fault, bundle_fault, flags_fault}
use Rattle.px_base.specs.Texts.{Text}
use Rattle.px_words.proofs.ClapRules.{top, rules}

-- a walk that stands before a word
abbrev pub at : Held → Waiting → Bool → Walk
at h waiting is_trailing = record { held = h; waiting = waiting; position = 1; is_trailing = is_trailing; stopped = None }

none_met : (waiting : Waiting) (word : Text) → subcommand_met [] waiting word ≡ None
none_met idle word = refl
none_met (option id) word = refl
none_met positional word = refl

-- one word takes the walk to w, with the faults ks
abbrev pub Takes : Walk → Text → Walk → Kinds → Type 0
Takes w word after ks = (walked rules [] w word ≡ after) × (turn_fault top [] w word ≡ ks)

one_word : (h : Held) (waiting : Waiting) (word : Text) (m : Held × Step) (ks : Kinds)
    → subcommand_or_other rules None waiting 1 word h ≡ m → other_fault top None word h ≡ ks
    → Takes (at h waiting false) word (after_step rules word (at h waiting false) m.0 m.1) (or_else ks (step_fault top 1 m.0 m.1))
unfolding walked
one_word h waiting word m ks is fault =
    let met : word_met rules [] false waiting 1 word h ≡ m = ap (λ o. subcommand_or_other rules o waiting 1 word h) (none_met waiting word) ∙ is in
    let faulty : word_fault top [] false waiting word h ≡ ks = ap (λ o. other_fault top o word h) (none_met waiting word) ∙ fault in (
      ap (λ (p : Held × Step). after_step rules word (at h waiting false) p.0 p.1) met,
      ap₂ (λ (l : Kinds) (p : Held × Step). or_else l (step_fault top 1 p.0 p.1)) faulty met,
    )

pub ends_step : (h : Held) (waiting : Waiting) (word : Text) → bytes_eq word (codes "--") ≡ true → Takes (at h waiting false) word (at h waiting true) []
ends_step h waiting word e = one_word h waiting word (h, trailing 1) []
    (ap (λ b. cond b (h, trailing 1) (long_or_other rules waiting word (long_of word) h)) e)
    (ap (λ b. cond b [] (flag_word_fault rules false (long_of word) word h)) e)

module _ (h : Held) (waiting : Waiting) (word : Text) (e : bytes_eq word (codes "--") ≡ false) where
  flag_met : (o : Option (Text × Option Text)) → long_of word ≡ o → subcommand_or_other rules None waiting 1 word h ≡ long_or_other rules waiting word o h
  flag_met o l = ap (λ b. cond b (h, trailing 1) (long_or_other rules waiting word (long_of word) h)) e ∙ ap (λ p. long_or_other rules waiting word p h) l

  flag_fault : (o : Option (Text × Option Text)) → long_of word ≡ o → other_fault top None word h ≡ flag_word_fault rules false o word h
  flag_fault o l = ap (λ b. cond b [] (flag_word_fault rules false (long_of word) word h)) e ∙ ap (λ p. flag_word_fault rules false p word h) l

  pub long_step : (name : Text) (v : Option Text) → long_of word ≡ Some (name, v)
      → Takes (at h waiting false) word
      (after_step rules word (at h waiting false) (long_word rules waiting word name v h).0 (long_word rules waiting word name v h).1)
      (or_else (long_fault rules false (arg_by_long rules name) v h) (step_fault top 1 (long_word rules waiting word name v h).0 (long_word rules waiting word name v h).1))
  long_step name v l = one_word h waiting word (long_word rules waiting word name v h) (long_fault rules false (arg_by_long rules name) v h) (flag_met _ l) (flag_fault _ l)

  pub other_step : long_of word ≡ None → short_of word ≡ None
      → Takes (at h waiting false) word
      (after_step rules word (at h waiting false) (plain_word rules waiting word h).0 (plain_word rules waiting word h).1)
      (step_fault top 1 (plain_word rules waiting word h).0 (plain_word rules waiting word h).1)
  other_step l s = one_word h waiting word (plain_word rules waiting word h) []
      (flag_met None l ∙ ap (λ o. short_or_plain rules waiting word o h) s)
      (flag_fault None l ∙ ap (λ o. Rattle.std.specs.Option.option_map_or (λ flags. bundle_fault rules false flags h) o []) s)

-- whether there is no fault
abbrev pub is_fine : Kinds → Bool
is_fine [] = true
is_fine (k ∷ ks) = false

pub fine_or : (ks ls : Kinds) → is_fine (or_else ks ls) ≡ (is_fine ks && is_fine ls)
fine_or [] ls = refl
fine_or (k ∷ ks) ls = refl

abbrev is_nil : Text → Bool
is_nil [] = true
is_nil (b ∷ bs) = false

-- a text that isn't empty has a first character
first_char : (b : ℕ) (bs : Text) → IsUtf8 (b ∷ bs) → (c : ℕ) × (slice_get (chars (b ∷ bs)) 0 ≡ Some c)
first_char b bs u = go u.0 u.1.0 u.1.1
  where
    go : (cs : List ℕ) → Rattle.std.specs.Str.all_scalars cs ≡ true → encode_utf8_all cs ≡ b ∷ bs → (c : ℕ) × (slice_get (chars (b ∷ bs)) 0 ≡ Some c)
    go [] s e = absurd (true≢false (ap is_nil e))
    go (c ∷ cs) s e = (c, ap (λ t. slice_get (chars t) 0) (sym e) ∙ ap (λ xs. slice_get xs 0) (chars-encodes (c ∷ cs) s))

bundle_faulty : (h : Held) (b : ℕ) (bs : Text) (c : ℕ) → h.skip ≡ 0 → slice_get (chars (b ∷ bs)) 0 ≡ Some c → is_fine (bundle_fault rules false (b ∷ bs) h) ≡ false
unfolding flags_fault
bundle_faulty h b bs c none first = rw (none, first) refl

-- what stands after a first `-` is text too
after_dash : (b : ℕ) (bs : Text) → IsUtf8 (45 ∷ b ∷ bs) → IsUtf8 (b ∷ bs)
after_dash b bs u = IsUtf8-drop (45 ∷ b ∷ bs) 1 u (IsCharBoundary-after_ascii (45 ∷ b ∷ bs) 0 u (omega arith) (omega arith))

pub short_faulty : (h : Held) (waiting : Waiting) (b : ℕ) (bs : Text) → h.skip ≡ 0 → IsUtf8 (45 ∷ b ∷ bs)
    → bytes_eq (45 ∷ b ∷ bs) (codes "--") ≡ false → long_of (45 ∷ b ∷ bs) ≡ None → short_of (45 ∷ b ∷ bs) ≡ Some (b ∷ bs)
    → is_fine (turn_fault top [] (at h waiting false) (45 ∷ b ∷ bs)) ≡ false
short_faulty h waiting b bs none u e l s =
    let word : Text = 45 ∷ b ∷ bs in
    let m : Held × Step = subcommand_or_other rules None waiting 1 word h in
    let ks : Kinds = bundle_fault rules false (b ∷ bs) h in
    let char = first_char b bs (after_dash b bs u) in
    let fault : other_fault top None word h ≡ ks =
    flag_fault h waiting word e None l ∙ ap (λ o. Rattle.std.specs.Option.option_map_or (λ flags. bundle_fault rules false flags h) o []) s in
    ap is_fine (one_word h waiting word m ks refl fault).1 ∙ fine_or ks (step_fault top 1 m.0 m.1)
    ∙ ap (λ x. x && is_fine (step_fault top 1 m.0 m.1)) (bundle_faulty h b bs char.0 none char.1)
