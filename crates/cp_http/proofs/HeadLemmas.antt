-- A head that the parser holds is the only one that the text may be.
use Rattle.std.proofs.Common.{◌≡◌, ◌≢◌, ℕ, ◌+◌, ◌<◌, ◌≤◌, List, [], ◌∷◌, ◌++◌, length, take, drop, map, codes, Bool, Option, Some, refl, ap, sym, ◌∙◌, subst, arith, length-append}
use Rattle.std.proofs.lemmas.List.{length-map, length-take-le, take_all}
use Rattle.std.proofs.Math.Seq.{drop-length}
use Rattle.std.specs.List.{list_any, slice_index}
use Rattle.std.specs.Option.{option_copied}
use Rattle.httparse.specs.declared.borrowed.Request.{Request}
use Rattle.httparse.specs.Borrowed.{HoldsRequest, HoldsSomeRequest, header_parts}
use Rattle.httparse.specs.Grammar.{RequestHead, print_request}
use Rattle.httparse.specs.Spans.{name_and_value}
use Rattle.httparse.proofs.GrammarLemmas.{request_unique}
use Rattle.cp_http.specs.Fields.{values_of, HasGoodLength, length_in, has_close}
use Rattle.cp_http.specs.Heads.{IsBareFeed, IsAccepted, HeadContent, HoldsHead, HoldsNoHead, content_of, fields_of, head_limit, window}

-- what the parser holds is this head
pub record Agrees (text : List ℕ) (r : Request) (len : ℕ) (k : RequestHead) : Type 0 where
  pub whole : len ≡ length text
  pub version : r.version ≡ Some 1
  pub few : length r.headers.now ≤ 64
  pub fields : map header_parts r.headers.now ≡ fields_of k

agrees : (text : List ℕ) (r : Request) (len : ℕ) (h k : RequestHead) → HoldsRequest text len r h → IsAccepted text k → Agrees text r len k
agrees text r len h k held a =
    let both = request_unique text h k (drop len text) [] held.reads a.reads in
    let fields : map header_parts r.headers.now ≡ fields_of k = held.fields ∙ ap fields_of both.0 in
    record {
      whole = held.len_is ∙ sym (ap length held.reads.1 ∙ length-append (print_request h) (drop len text) ∙ ap (λ d. length (print_request h) + length d) both.1 ∙ omega arith);
      version = held.version ∙ ap (λ x. Some x.minor) both.0 ∙ ap Some a.version;
      few = omega (arith, a.few, sym (length-map r.headers.now header_parts) ∙ ap length fields ∙ length-map k.fields name_and_value);
      fields = fields;
    }

pub other_end : (text : List ℕ) (r : Request) (len : ℕ) → HoldsSomeRequest text r len → len ≢ length text → HoldsNoHead text
other_end text r len held odd = record { never = λ k a. odd (agrees text r len held.0 k held.1 a).whole }

pub other_version : (text : List ℕ) (r : Request) (len : ℕ) → HoldsSomeRequest text r len → r.version ≢ Some 1 → HoldsNoHead text
other_version text r len held odd = record { never = λ k a. odd (agrees text r len held.0 k held.1 a).version }

pub too_many : (text : List ℕ) (r : Request) (len : ℕ) → HoldsSomeRequest text r len → 64 < length r.headers.now → HoldsNoHead text
too_many text r len held odd = record { never = λ k a. omega (arith, (agrees text r len held.0 k held.1 a).few) }

pub has_coding : (text : List ℕ) (r : Request) (len : ℕ) (v : List ℕ) (more : List (List ℕ)) → HoldsSomeRequest text r len
    → values_of (codes "transfer-encoding") (map header_parts r.headers.now) ≡ v ∷ more → HoldsNoHead text
has_coding text r len v more held e = record {
  never = λ k a.
      let same : v ∷ more ≡ [] = sym e ∙ ap (values_of (codes "transfer-encoding")) (agrees text r len held.0 k held.1 a).fields ∙ a.whole in
      cc;
}

pub bad_length : (text : List ℕ) (r : Request) (len : ℕ) → HoldsSomeRequest text r len
    → ¬ HasGoodLength (values_of (codes "content-length") (map header_parts r.headers.now)) → HoldsNoHead text
bad_length text r len held bad = record {
  never = λ k a.
      bad (subst (λ (fields : List (List ℕ × List ℕ)). HasGoodLength (values_of (codes "content-length") fields)) (sym (agrees text r len held.0 k held.1 a).fields) a.lengths);
}

pub ruleset heads = (other_end, other_version, too_many, has_coding, bad_length)

-- what passed each test
pub record Passed (text : List ℕ) (r : Request) (len : ℕ) : Type 0 where
  pub no_return : slice_index text 0 ≢ 13
  pub no_feed : slice_index text 0 ≢ 10
  pub no_bare_feed : (k : ℕ) → ¬ IsBareFeed text k
  pub whole : len ≡ length text
  pub version : r.version ≡ Some 1
  pub few : length r.headers.now ≤ 64
  pub coding : values_of (codes "transfer-encoding") (map header_parts r.headers.now) ≡ []
  pub lengths : HasGoodLength (values_of (codes "content-length") (map header_parts r.headers.now))

pub says : (text : List ℕ) (r : Request) (len : ℕ) → HoldsSomeRequest text r len → Passed text r len
    → (method path : List ℕ) (n : Option ℕ) (last : Bool) → option_copied r.method ≡ Some method → option_copied r.path ≡ Some path
    → n ≡ length_in (values_of (codes "content-length") (map header_parts r.headers.now))
    → last ≡ list_any has_close (values_of (codes "connection") (map header_parts r.headers.now))
    → HoldsHead text (record { method = method; path = path; length = n; close = last })
says text r len held passed method path n last m_is p_is n_is last_is =
    let h = held.0 in
    let rest : drop len text ≡ [] = ap (λ n. drop n text) passed.whole ∙ drop-length text in
    let fields : map header_parts r.headers.now ≡ fields_of h = held.1.fields in
    let minor : Some h.minor ≡ Some 1 = sym held.1.version ∙ passed.version in
    let m : Some method ≡ Some h.method = sym m_is ∙ held.1.method in
    let p : Some path ≡ Some h.target = sym p_is ∙ held.1.path in
    let n_same : n ≡ length_in (values_of (codes "content-length") (fields_of h)) = n_is ∙ ap (λ (f : List (List ℕ × List ℕ)). length_in (values_of (codes "content-length") f)) fields in
    let l_same : last ≡ list_any has_close (values_of (codes "connection") (fields_of h)) = last_is ∙ ap (λ (f : List (List ℕ × List ℕ)). list_any has_close (values_of (codes "connection") f)) fields in (
      h,
      record {
        no_return = passed.no_return;
        no_feed = passed.no_feed;
        no_bare_feed = passed.no_bare_feed;
        reads = (held.1.reads.0, held.1.reads.1 ∙ ap (λ d. print_request h ++ d) rest);
        version = cc;
        few = omega (arith, passed.few, sym (length-map r.headers.now header_parts) ∙ ap length fields ∙ length-map h.fields name_and_value);
        whole = sym (ap (values_of (codes "transfer-encoding")) fields) ∙ passed.coding;
        lengths = subst (λ (f : List (List ℕ × List ℕ)). HasGoodLength (values_of (codes "content-length") f)) fields passed.lengths;
      },
      cc,
    )

pub limit_is : 16384 ≡ head_limit
unfolding head_limit
limit_is = refl

-- all of the bytes, where they are few
pub window_all : (bytes : List ℕ) → length bytes ≤ 16384 → bytes ≡ window bytes
unfolding window
window_all bytes short = sym (take_all head_limit bytes (omega (arith, limit_is)))

pub window_front : (bytes : List ℕ) → take 16384 bytes ≡ window bytes
unfolding window
window_front bytes = ap (λ n. take n bytes) limit_is

pub long_front : (bytes : List ℕ) → 16384 < length bytes → 16384 ≡ length (take 16384 bytes)
long_front bytes long = sym (length-take-le 16384 bytes (omega arith))

pub ruleset windows = (window_all, window_front, long_front)

-- a text is one head at most
pub one_content : (text : List ℕ) (content other : HeadContent) → HoldsHead text content → HoldsHead text other → content ≡ other
one_content text content other h k =
    let heads = request_unique text h.0 k.0 [] [] h.1.reads k.1.reads in
    h.2 ∙ ap content_of heads.0 ∙ sym k.2
