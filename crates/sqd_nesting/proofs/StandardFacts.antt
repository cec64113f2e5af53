-- texts worked by hand, whole and with their first faults
use Rattle.std.proofs.Common.{◌≡◌, refl, ℕ, List, [], ◌∷◌, true, inl, inr}
use Rattle.std.specs.Prelude.{codes}
use Rattle.std.proofs.lemmas.Bool.{eqb-false}
use Rattle.sqd_marks.specs.Marks.{Tag, TextMark, start, empty, close, comment, IsTag}
use Rattle.sqd_nesting.specs.Texts.{Item, Opened, Nest, IsWhole, at_first}
use Rattle.sqd_nesting.specs.Faults.{IsFirstFault}
use Rattle.sqd_scan.specs.declared.fault.SqdFault.TheVariants.{BadMark, NotClosed, WrongClose, Doctype}

-- `a`, `b` and `</b>`
abbrev pub tag : List ℕ → Tag
tag name = record { name = name; attributes = []; after = [] }

abbrev pub item : List ℕ → TextMark → Item
item text mark = record { text = text; mark = mark }

abbrev pub nest : List Opened → Nest
nest opened = record { opened = opened; rooted = true }

abbrev pub opened : ℕ → List ℕ → Opened
opened at name = record { at = at; name = name }

tag_a : IsTag (tag (codes "a"))
tag_a = record { name = (refl, tt); attributes = tt; after = tt }

tag_b : IsTag (tag (codes "b"))
tag_b = record { name = (refl, tt); attributes = tt; after = tt }

-- a byte order mark, a comment, `<a>`, text, `<b/>` and `</a>`
abbrev pub whole_items : List Item
whole_items = item (codes " ") (comment []) ∷ item [] (start (tag (codes "a"))) ∷ item (codes "x>") (empty (tag (codes "b"))) ∷ item [] (close (codes "a") []) ∷ []

abbrev pub whole_text : List ℕ
whole_text = 239 ∷ 187 ∷ 191 ∷ codes " <!----><a>x><b/></a>\n"

pub whole : IsWhole whole_text whole_items
whole = record {
  nest = nest [];
  rest = 10 ∷ [];
  begins = record {
    is = refl;
    valid = (record { text = (refl, tt); mark = tt }, (record { text = tt; mark = tag_a }, (record { text = (refl, (refl, tt)); mark = tag_b }, (record { text = tt; mark = ((refl, tt), tt) }, tt))));
    nested = (
      at_first,
      record { quiet = λ o. (refl, tt); turns = refl },
      (
        inside,
        record { quiet = λ o. tt; turns = (λ o. refl, record { opened = refl; rooted = refl }) },
        (
          inside,
          record { quiet = λ o. cc o; turns = (λ o. cc o, record { opened = refl; rooted = refl }) },
          (nest [], record { quiet = λ o. tt; turns = record { innermost = opened 11 (codes "a"); opened = refl; named = refl; rooted = refl } }, refl),
        ),
      ),
    );
  };
  closed = refl;
  blank = (refl, tt);
}
  where
    inside : Nest
    inside = nest (opened 11 (codes "a") ∷ [])

-- nothing at all is whole marks
empty_text : IsWhole [] []
empty_text = record { nest = at_first; rest = []; begins = record { is = refl; valid = tt; nested = refl }; closed = refl; blank = tt }

pub one_byte : (a b : ℕ) → ◌≡◌ {A = List ℕ} (a ∷ []) (b ∷ []) → a ≡ b
one_byte a b e = cc e

-- `</b>` where `a` is open
pub wrong_close : IsFirstFault (codes "<a></b>") (WrongClose 3)
wrong_close = record {
  items = item [] (start (tag (codes "a"))) ∷ [];
  nest = nest (opened 0 (codes "a") ∷ []);
  left = codes "</b>";
  begins = record { is = refl; valid = (record { text = tt; mark = tag_a }, tt); nested = (nest (opened 0 (codes "a") ∷ []), record { quiet = λ o. tt; turns = (λ o. refl, record { opened = refl; rooted = refl }) }, refl) };
  found = record {
    between = [];
    rest = codes "</b>";
    is = refl;
    text_only = tt;
    found = inr (record {
      quiet = λ o. tt;
      begins = refl;
      found = (refl, record { name = codes "b"; after = []; valid = ((refl, tt), tt); begins = ([], refl); other = record { innermost = opened 0 (codes "a"); others = []; opened = refl; named = λ e. eqb-false 97 98 refl (one_byte 97 98 e) } });
    });
  };
}

-- `a` isn't closed
pub not_closed : IsFirstFault (codes "<a>x") (NotClosed 0)
not_closed = record {
  items = item [] (start (tag (codes "a"))) ∷ [];
  nest = nest (opened 0 (codes "a") ∷ []);
  left = codes "x";
  begins = record { is = refl; valid = (record { text = tt; mark = tag_a }, tt); nested = (nest (opened 0 (codes "a") ∷ []), record { quiet = λ o. tt; turns = (λ o. refl, record { opened = refl; rooted = refl }) }, refl) };
  found = record {
    between = codes "x";
    rest = [];
    is = refl;
    text_only = (refl, tt);
    found = inr (record { quiet = λ o. cc o; begins = tt; found = inr (record { none = refl; inside = record { innermost = opened 0 (codes "a"); others = []; opened = refl; place = refl } }) });
  };
}

-- a second root, whole or not
pub second_root : IsFirstFault (codes "<a/> <b") (BadMark 5)
second_root = record {
  items = item [] (empty (tag (codes "a"))) ∷ [];
  nest = nest [];
  left = codes " <b";
  begins = record { is = refl; valid = (record { text = tt; mark = tag_a }, tt); nested = (nest [], record { quiet = λ o. tt; turns = (λ o. refl, record { opened = refl; rooted = refl }) }, refl) };
  found = record {
    between = codes " ";
    rest = codes "<b";
    is = refl;
    text_only = (refl, tt);
    found = inr (record { quiet = λ o. (refl, tt); begins = refl; found = inl (refl, record { byte = 98; more = []; is = refl; outside = refl; tells = inr (refl, refl) }) });
  };
}

-- two of the three bytes of a byte order mark are text outside the root
pub half_mark : IsFirstFault (239 ∷ 187 ∷ codes "<a/>") (BadMark 0)
half_mark = record {
  items = [];
  nest = at_first;
  left = 239 ∷ 187 ∷ codes "<a/>";
  begins = record { is = refl; valid = tt; nested = refl };
  found = record {
    between = 239 ∷ 187 ∷ [];
    rest = codes "<a/>";
    is = refl;
    text_only = (refl, (refl, tt));
    found = inl (record { outside = refl; blanks = []; byte = 239; more = 187 ∷ []; is = refl; blank = tt; not_blank = refl; fault_is = refl });
  };
}

-- a document type
pub with_doctype : IsFirstFault (codes "\n<!DOCTYPE a>") (Doctype 1)
with_doctype = record {
  items = [];
  nest = at_first;
  left = codes "\n<!DOCTYPE a>";
  begins = record { is = refl; valid = tt; nested = refl };
  found = record { between = 10 ∷ []; rest = codes "<!DOCTYPE a>"; is = refl; text_only = (refl, tt); found = inr (record { quiet = λ o. (refl, tt); begins = refl; found = (refl, (codes " a>", refl)) }) };
}
