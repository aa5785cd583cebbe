-- How what is looked for is found: by keys, of which those that are bound under one name have the same.
use Rattle.std.specs.Prelude.{◌≡◌, ℕ, ◌+◌, ◌-◌, ◌*◌, ◌%◌, ◌<◌, ◌≤◌, List, map, length, drop, fold, Bool, true, false, Option, Some, None, slice_index_or}
use Rattle.std.specs.Str.{bytes_eq}
use Rattle.px_base.specs.declared.trace.Site.{Site}
use Rattle.px_real_scopes.specs.declared.meaning.Binding.{Binding}
use Rattle.px_real_scopes.specs.declared.meaning.Definition.{Definition}
use Rattle.px_real_scopes.specs.declared.keys.Wanted.{Wanted}
use Rattle.px_real_scopes.specs.declared.keys.Wanted.TheVariants as W
use Rattle.px_real_scopes.specs.Scopes.{MeaningTree, TagTree, BindingTree, begins_block, of_name, of_tag, of_place}
use Rattle.px_real_scopes.specs.Lookups.{same_place}
use Rattle.px_real_scopes.specs.Views.{binding_view}

-- ---- keys of names, of tags and of places, and the key of where a block begins

abbrev pub key_step : ℕ → ℕ → ℕ
key_step key byte = (key * 31 + byte) % 4096

abbrev pub word_key : List ℕ → ℕ
word_key word = fold key_step 0 word

abbrev pub tag_key : List ℕ → ℕ
tag_key word = 4096 + word_key word

abbrev pub place_key : Site → ℕ
place_key site = 8192 + (site.line % 1024 + site.column % 1024)

abbrev pub block_key : ℕ
block_key = 12288

abbrev pub binding_key : BindingTree → ℕ
binding_key begins_block = block_key
binding_key (of_name name m) = word_key name
binding_key (of_tag name t) = tag_key name
binding_key (of_place site n) = place_key site

abbrev pub wanted_key : Wanted → ℕ
wanted_key (W.Name word) = word_key word.now
wanted_key (W.Tag word) = tag_key word.now
wanted_key (W.Place site) = place_key site

-- whether it is bound here
abbrev pub binds_name : List ℕ → BindingTree → Bool
binds_name word (of_name name m) = bytes_eq word name
binds_name word _ = false

abbrev pub binds_tag : List ℕ → BindingTree → Bool
binds_tag word (of_tag name t) = bytes_eq word name
binds_tag word _ = false

abbrev pub binds_place : Site → BindingTree → Bool
binds_place site (of_place place n) = same_place site place
binds_place site _ = false

abbrev pub binds : Wanted → BindingTree → Bool
binds (W.Name word) b = binds_name word.now b
binds (W.Tag word) b = binds_tag word.now b
binds (W.Place site) b = binds_place site b

-- what is bound
abbrev pub meaning_bound : BindingTree → Option MeaningTree
meaning_bound (of_name name m) = Some m
meaning_bound _ = None

abbrev pub tag_bound : BindingTree → Option TagTree
tag_bound (of_tag name t) = Some t
tag_bound _ = None

abbrev pub number_bound : BindingTree → Option ℕ
number_bound (of_place place n) = Some n
number_bound _ = None

-- the keys of bindings, and the numbers of definitions
abbrev pub keys_of : List Binding → List ℕ
keys_of bs = map (λ b. binding_key (binding_view b)) bs

abbrev pub numbers_of : List Definition → List ℕ
numbers_of ds = map (λ d. d.number) ds

-- ---- the last of several

-- the last that passes is the last of the first n; n is 0 where none does
pub record IsLast {A : Type 0} (test : A → Bool) (xs : List A) (n : ℕ) : Type 0 where
  pub within : n ≤ length xs
  pub here : (d : A) → 0 < n → test (slice_index_or xs (n - 1) d) ≡ true
  pub none_behind : (d : A) (i : ℕ) → n ≤ i → i < length xs → test (slice_index_or xs i d) ≡ false

-- the last n of a list
abbrev pub last_of : {A : Type 0} → ℕ → List A → List A
last_of n xs = drop (length xs - n) xs
