-- A source is read, or it has a fault.
use Rattle.std.proofs.Common.{◌≡◌, ◌≢◌, ◌⊎◌, inl, inr, ℕ, ◌-◌, ◌<◌, ◌≤◌, List, [], ◌∷◌, length, length-take, length-drop, Option, Some, None, Result, Ok, Err, refl, arith}
use Rattle.px_base.specs.declared.trace.Site.{Site}
use Rattle.px_lexer.specs.declared.token.Token.{Token}
use Rattle.px_lexer.specs.declared.token.LexFault.{LexFault}
use Rattle.px_lexer.specs.declared.token.LexFault.TheVariants as lex_fault
use Rattle.px_lexer.specs.Tokens.{Lexes}
use Rattle.px_lexer.proofs.Readings.{some_reading}
use Rattle.px_cutting.specs.declared.cutting.Span.{Span}
use Rattle.px_cutting.specs.Cutting.{Cuts}
use Rattle.px_cutting.proofs.CuttingExact.{some_cutting}
use Rattle.px_expressions.specs.Lexemes.{lexemes}
use Rattle.px_syntax.specs.ItemTree.{ItemTree}
use Rattle.px_syntax.specs.ParsedTree.{ParsedTree, parsed, out, FileTree}
use Rattle.px_parser.specs.ItemGrammar.{IsItem}
use Rattle.px_parser.specs.Refusals.{IsRefusal}
use Rattle.px_parser.specs.Names.{IsFunctionName}
use Rattle.px_parser.proofs.Existence.{some_item, some_name}
use Rattle.px_reading.specs.declared.reading.SourceFault.{SourceFault}
use Rattle.px_reading.specs.declared.reading.SourceFault.TheVariants.{Byte, Comment, Constant, Unbalanced}
use Rattle.px_cutting.specs.Shape.{tokens_in}
use Rattle.px_reading.specs.Sources.{IsNamed, IsParsed, AreParsed, IsFileOf, HasFault, AreWithin}
use Rattle.px_reading.specs.Laws.{SomeReading}
use Rattle.px_reading.proofs.Within.{within_all}

named_by : (source : List ℕ) (ts : List Token) → ((name : List ℕ) × IsFunctionName source ts name) ⊎ ((name : List ℕ) → ¬ IsFunctionName source ts name) → (name : Option (List ℕ)) × IsNamed source ts name
named_by source ts (inl (name, h)) = (Some name, h)
named_by source ts (inr none) = (None, none)

parsed_by : (source : List ℕ) (ts : List Token) →
    ((item : ItemTree) × IsItem (lexemes source ts) item) ⊎ (((item : ItemTree) → ¬ IsItem (lexemes source ts) item) × ((word : List ℕ) × (place : Site) × IsRefusal source ts word place)) →
    (tree : ParsedTree) × IsParsed source ts tree
parsed_by source ts (inl (item, h)) = (parsed item, h)
parsed_by source ts (inr (none, r)) = let name = named_by source ts (some_name source ts) in (out name.0 r.1 r.0, (none, r.2, name.1))

all_parsed : (source : List ℕ) (tokens : List Token) (spans : List Span) → AreWithin (length tokens) spans → (items : List ParsedTree) × AreParsed source tokens spans items
all_parsed source tokens [] w = ([], tt)
all_parsed source tokens (s ∷ spans) w =
    let some : 0 < length (tokens_in tokens s) = grind (arith, length-take, length-drop, w.0, w.1) in
    let here = parsed_by source (tokens_in tokens s) (some_item source (tokens_in tokens s) some) in
    let rest = all_parsed source tokens spans w.2 in
    (here.0 ∷ rest.0, (here.1, rest.1))

fault_by : (number : ℕ) (source : List ℕ) (fault : LexFault) → Lexes number source (Err fault) → (fault ≢ lex_fault.NoMemory) → (f : SourceFault) × HasFault number source f
fault_by number source (lex_fault.Byte site) l ne = (Byte site, l)
fault_by number source (lex_fault.Comment site) l ne = (Comment site, l)
fault_by number source (lex_fault.Constant site) l ne = (Constant site, l)
fault_by number source lex_fault.NoMemory l ne = absurd (ne refl)

cut_by : (number : ℕ) (name source : List ℕ) (tokens : List Token) → Lexes number source (Ok tokens) → (r : Result (List Span) Site) → Cuts 0 tokens r →
    ((file : FileTree) × IsFileOf number name source file) ⊎ ((fault : SourceFault) × HasFault number source fault)
cut_by number name source tokens l (Err place) cut = inr (Unbalanced place, (tokens, l, cut))
cut_by number name source tokens l (Ok spans) cut =
    let all = all_parsed source tokens spans (within_all tokens spans cut) in
    inl (record { name = name; items = all.0 }, record { tokens = tokens; lexed = l; spans = spans; cut = cut; items = all.1; named = refl })

pub some_file : SomeReading
some_file number name source = by (some_reading number source)
  where
    by : ((tokens : List Token) × Lexes number source (Ok tokens)) ⊎ ((fault : LexFault) × Lexes number source (Err fault) × (fault ≢ lex_fault.NoMemory)) →
        ((file : FileTree) × IsFileOf number name source file) ⊎ ((fault : SourceFault) × HasFault number source fault)
    by (inl (tokens, l)) = let cut = some_cutting 0 tokens in cut_by number name source tokens l cut.0 cut.1
    by (inr (fault, l, ne)) = inr (fault_by number source fault l ne)
