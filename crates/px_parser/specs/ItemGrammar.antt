-- The grammar of items: which lexemes are which item.
use Rattle.std.specs.Prelude.{◌≡◌, List, [], ◌∷◌, ◌++◌, Some, None, true}
use Rattle.px_base.specs.declared.trace.Site.{Site}
use Rattle.px_expressions.specs.Lexemes.{Lexeme}
use Rattle.px_expressions.specs.declared.terminal.Terminal.TheVariants as T
use Rattle.px_expressions.specs.Grammar.{IsBase, IsType, Separated, Parenthesised}
use Rattle.px_statements.specs.SimpleGrammar.{IsDeclarator}
use Rattle.px_statements.specs.StatementGrammar.{IsBraced, IsStatement}
use Rattle.px_parser.specs.ItemReading.{all_named, depth_limit}
use Rattle.px_syntax.specs.declared.type_name.Base.{Base}
use Rattle.px_syntax.specs.declared.type_name.TypeName.{TypeName}
use Rattle.px_syntax.specs.declared.type_name.Declarator.{Declarator}
use Rattle.px_syntax.specs.declared.item.FieldDeclaration.{FieldDeclaration}
use Rattle.px_syntax.specs.declared.item.ResultType.{ResultType}
use Rattle.px_syntax.specs.declared.item.ResultType.TheVariants as R
use Rattle.px_syntax.specs.declared.item.Parameter.{Parameter}
use Rattle.px_syntax.specs.StatementTree.{StatementTree}
use Rattle.px_syntax.specs.ItemTree.{ItemTree, struct, declared, prototype, function}

-- field = base declr (, declr)* ;
pub data IsField : List Lexeme → FieldDeclaration → Type 0 where
  is_field : {ts1 ts2 ts : List Lexeme} {b : Base} {ds : List Declarator} {a : FieldDeclaration} (t : Lexeme) →
      IsBase ts1 b → Separated IsDeclarator ts2 ds → t.terminal ≡ T.Semicolon → ts ≡ ts1 ++ (ts2 ++ t ∷ []) → a ≡ record { base = b; declarators = ds } → IsField ts a

-- field*
pub data AreFields : List Lexeme → List FieldDeclaration → Type 0 where
  no_field : {ts : List Lexeme} {fs : List FieldDeclaration} → ts ≡ [] → fs ≡ [] → AreFields ts fs
  one_field : {ts1 ts2 ts : List Lexeme} {f : FieldDeclaration} {fs1 fs : List FieldDeclaration} →
      IsField ts1 f → AreFields ts2 fs1 → ts ≡ ts1 ++ ts2 → fs ≡ f ∷ fs1 → AreFields ts fs

-- result = void | base star*
pub data IsResult : List Lexeme → ResultType → Type 0 where
  is_void : {t : Lexeme} {ts : List Lexeme} {r : ResultType} → t.terminal ≡ T.Void → ts ≡ t ∷ [] → r ≡ R.Void → IsResult ts r
  is_value : {ts : List Lexeme} {a : TypeName} {r : ResultType} → IsType ts a → r ≡ R.Value a → IsResult ts r

-- param = base star* NAME, where NAME may be missing
pub data IsParameter : List Lexeme → Parameter → Type 0 where
  is_named : {ts1 ts : List Lexeme} {a : TypeName} {p : Parameter} (t : Lexeme) →
      IsType ts1 a → t.terminal ≡ T.Name → ts ≡ ts1 ++ t ∷ [] → p ≡ record { value = a; name = Some t.text } → IsParameter ts p
  is_unnamed : {ts : List Lexeme} {a : TypeName} {p : Parameter} → IsType ts a → p ≡ record { value = a; name = None } → IsParameter ts p

-- params = empty | void | param (, param)*
pub data AreParameters : List Lexeme → List Parameter → Type 0 where
  no_parameters : {ts : List Lexeme} {ps : List Parameter} → ts ≡ [] → ps ≡ [] → AreParameters ts ps
  void_parameters : {t : Lexeme} {ts : List Lexeme} {ps : List Parameter} → t.terminal ≡ T.Void → ts ≡ t ∷ [] → ps ≡ [] → AreParameters ts ps
  some_parameters : {ts : List Lexeme} {ps : List Parameter} → Separated IsParameter ts ps → AreParameters ts ps

-- result NAME ( params ) ;   or   result NAME ( params ) block, where each parameter has a name
pub data IsFunction (site : Site) : List Lexeme → ItemTree → Type 0 where
  is_prototype : {ts1 ts2 ts : List Lexeme} {r : ResultType} {ps : List Parameter} {a : ItemTree} (n t : Lexeme) →
      IsResult ts1 r → n.terminal ≡ T.Name → Parenthesised AreParameters ts2 ps → t.terminal ≡ T.Semicolon →
      ts ≡ ts1 ++ (n ∷ ts2 ++ t ∷ []) → a ≡ prototype site r n.text ps → IsFunction site ts a
  is_function : {ts1 ts2 ts3 ts : List Lexeme} {r : ResultType} {ps : List Parameter} {ss : List StatementTree} {a : ItemTree} (n : Lexeme) →
      IsResult ts1 r → n.terminal ≡ T.Name → Parenthesised AreParameters ts2 ps → all_named ps ≡ true → IsBraced (IsStatement depth_limit) ts3 ss →
      ts ≡ ts1 ++ (n ∷ ts2 ++ ts3) → a ≡ function site r n.text ps ss → IsFunction site ts a

-- item, which begins at the site
pub data IsItemAt (site : Site) : List Lexeme → ItemTree → Type 0 where
  -- struct NAME ;
  is_declared : {s n t : Lexeme} {ts : List Lexeme} {a : ItemTree} →
      s.terminal ≡ T.Struct → n.terminal ≡ T.Name → t.terminal ≡ T.Semicolon → ts ≡ s ∷ n ∷ t ∷ [] → a ≡ declared site n.text → IsItemAt site ts a
  -- struct NAME { field field* } ;
  is_struct_item : {s n o : Lexeme} {ts1 ts2 ts : List Lexeme} {f : FieldDeclaration} {fs : List FieldDeclaration} {a : ItemTree} (c t : Lexeme) →
      s.terminal ≡ T.Struct → n.terminal ≡ T.Name → o.terminal ≡ T.OpenBrace → IsField ts1 f → AreFields ts2 fs → c.terminal ≡ T.CloseBrace → t.terminal ≡ T.Semicolon →
      ts ≡ s ∷ n ∷ o ∷ ts1 ++ (ts2 ++ c ∷ t ∷ []) → a ≡ struct site n.text (f ∷ fs) → IsItemAt site ts a
  is_plain_function : {ts : List Lexeme} {a : ItemTree} → IsFunction site ts a → IsItemAt site ts a
  -- static and a function
  is_static_function : {s : Lexeme} {ts1 ts : List Lexeme} {a : ItemTree} → s.terminal ≡ T.Static → IsFunction site ts1 a → ts ≡ s ∷ ts1 → IsItemAt site ts a

-- an item
pub data IsItem : List Lexeme → ItemTree → Type 0 where
  is_item : {t : Lexeme} {ts1 ts : List Lexeme} {a : ItemTree} → ts ≡ t ∷ ts1 → IsItemAt t.site ts a → IsItem ts a
