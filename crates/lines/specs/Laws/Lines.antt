-- A line read word by word. Assumes nothing.
use Rattle.std.specs.Prelude.{◌≡◌, refl, ℕ, suc, ◌+◌, ◌-◌, ◌≤◌, ◌<◌, true, false, Option, Some, None, List, [], ◌∷◌, ◌++◌, length, take, drop, get_or, eqb, ◌==◌, if◌then◌else◌}
use Rattle.std.proofs.Common.{sym, ◌∙◌, arith, add-one, length-drop, drop_of_length-le, length-take-le, get_or-take, drop-cons, drop-drop, take_all, ne_eqb, eqb-true, lt-ltb, le-ltb}
use Rattle.std.specs.List.{slice_split, onto_first}
use Rattle.model.proofs.Laws.Logic.{by_bool}
use Rattle.lines.specs.declared.request.Request.{Request}
use Rattle.lines.specs.declared.request.Request.TheVariants.{Unreadable}
use Rattle.lines.specs.Definitions.Numbers.{number}
use Rattle.lines.specs.Definitions.Lines.{space, most_bytes, letter_n, letter_r, letter_w, letter_c, letter_k, letter_f, letter_s, longer, words, and_one, more, numbers_from, with_one, with_two, with_three, with_four, request_of, request_in, request}
use Rattle.lines.specs.Clauses.{word_length, words_behind}

word_space : (l : List ℕ) (c : ℕ) → eqb c space ≡ true → word_length (c ∷ l) ≡ 0
unfolding word_length
word_space l c e = cc e

word_longer : (l : List ℕ) (c : ℕ) → eqb c space ≡ false → word_length (c ∷ l) ≡ word_length l + 1
unfolding word_length
word_longer l c e = let h : word_length l + 1 ≡ suc (word_length l) = omega arith in cc (e, h)

-- the same at a place of a line
module _ (l : List ℕ) (i : ℕ) where
  pub word_space_at : i < length l → eqb (get_or l i 0) space ≡ true → word_length (drop i l) ≡ 0
  word_space_at h e = rw (drop-cons l i 0 h) (word_space (drop (suc i) l) (get_or l i 0) e)

  pub word_longer_at : i < length l → eqb (get_or l i 0) space ≡ false → word_length (drop i l) ≡ word_length (drop (i + 1) l) + 1
  word_longer_at h e = rw (drop-cons l i 0 h, add-one i) (word_longer (drop (suc i) l) (get_or l i 0) e)

  pub word_end_at : length l ≤ i → word_length (drop i l) ≡ 0
  unfolding word_length
  word_end_at h = rw (drop_of_length-le l h)

pub word_within : (l : List ℕ) → word_length l ≤ length l
unfolding word_length
word_within [] = omega arith
word_within (c ∷ l) = by_bool (eqb c space) (λ e. rw (e, word_length) (omega arith)) (λ e. rw (e, word_length) (omega (arith, word_within l)))

-- the words are what std gives of a split at each space
longer_first : (c : ℕ) (ws : List (List ℕ)) → longer c ws ≡ onto_first c ws
unfolding longer
longer_first c [] = refl
longer_first c (w ∷ ws) = refl

pub words_split : (l : List ℕ) → words l ≡ slice_split (λ c. eqb c space) l
unfolding words
words_split [] = refl
words_split (c ∷ l) = by_bool (eqb c space) (λ e. cc (e, words_split l)) (λ e. cc (e, words_split l, longer_first c (words l)))

-- the first word, and those behind it
pub words_first : (l : List ℕ) → words l ≡ take (word_length l) l ∷ words_behind (drop (word_length l) l)
unfolding words word_length words_behind longer
words_first [] = refl
words_first (c ∷ l) = by_bool (eqb c space) (λ e. cc e) (λ e. cc (e, words_first l))

-- one number more
pub numbers_next : (f : Option (List ℕ)) (c : ℕ) (l : List ℕ)
    → numbers_from f (words_behind (c ∷ l)) ≡ numbers_from (more f (number (take (word_length l) l))) (words_behind (drop (word_length l) l))
unfolding numbers_from words_behind
numbers_next f c l = rw (words_first l)

-- ---- the numbers, word by word

-- behind what is no number, or one number too many, there are none
none_more : (n : Option ℕ) → more None n ≡ None
unfolding more and_one
none_more (Some a) = refl
none_more None = refl

pub numbers_none : (ws : List (List ℕ)) → numbers_from None ws ≡ None
unfolding numbers_from
numbers_none [] = refl
numbers_none (w ∷ ws) = rw (none_more (number w)) (numbers_none ws)

-- the words that std gives of a line, where a loop has come to word n of them, and where it ends
module _ (f : Option (List ℕ)) (l : List ℕ) (n : ℕ) where
  abbrev std_words : List (List ℕ)
  std_words = slice_split (λ c. eqb c space) l

  pub numbers_turn : (w : List ℕ) → (n < length std_words) × (w ≡ get_or std_words n w)
      → numbers_from f (drop n (words l)) ≡ numbers_from (more f (number w)) (drop (n + 1) (words l))
  unfolding numbers_from
  numbers_turn w h = rw words_split (rw (drop-cons std_words n w h.0, ← h.1, add-one n))

  pub numbers_end : n ≡ length std_words → numbers_from f (drop n (words l)) ≡ f
  unfolding numbers_from
  numbers_end h = let k : length std_words ≤ n = omega arith in rw (words_split l, drop_of_length-le)

-- one number more, and one too many
pub more_room : (l : List ℕ) (a : ℕ) → length l < 4 → and_one (Some l) a ≡ Some (l ++ (a ∷ []))
unfolding and_one
more_room [] a h = refl
more_room (b ∷ []) a h = refl
more_room (b ∷ c ∷ []) a h = refl
more_room (b ∷ c ∷ d ∷ []) a h = refl
more_room (b ∷ c ∷ d ∷ e ∷ l) a h = absurd (omega arith)

pub no_more_room : (l : List ℕ) (a : ℕ) → length l ≡ 4 → and_one (Some l) a ≡ None
unfolding and_one
no_more_room [] a h = absurd (omega arith)
no_more_room (b ∷ []) a h = absurd (omega arith)
no_more_room (b ∷ c ∷ []) a h = absurd (omega arith)
no_more_room (b ∷ c ∷ d ∷ []) a h = absurd (omega arith)
no_more_room (b ∷ c ∷ d ∷ e ∷ l) a h = refl

-- ---- the request, by the tests of the code

-- the seven lines, by how many numbers there are
abbrev line_with : ℕ → List ℕ → Request
line_with c l =
    if length l == 1 then with_one c (get_or l 0 0)
    else (if length l == 2 then with_two c (get_or l 0 0) (get_or l 1 0)
    else (if length l == 3 then with_three c (get_or l 0 0) (get_or l 1 0) (get_or l 2 0)
    else (if length l == 4 then with_four c (get_or l 0 0) (get_or l 1 0) (get_or l 2 0) (get_or l 3 0) else Unreadable)))

pub request_of_lem : (c : ℕ) (l : List ℕ) → request_of c (Some l) ≡ line_with c l
unfolding request_of
request_of_lem c [] = refl
request_of_lem c (b ∷ []) = refl
request_of_lem c (b ∷ k ∷ []) = refl
request_of_lem c (b ∷ p ∷ o ∷ []) = refl
request_of_lem c (b ∷ p ∷ o ∷ v ∷ []) = refl
request_of_lem c (b ∷ p ∷ o ∷ v ∷ x ∷ l) =
    let n : ℕ = length (b ∷ p ∷ o ∷ v ∷ x ∷ l) in
    cc (ne_eqb n 1 (λ e. omega arith), ne_eqb n 2 (λ e. omega arith), ne_eqb n 3 (λ e. omega arith), ne_eqb n 4 (λ e. omega arith))

-- a letter of none of the seven
module _ (c : ℕ) (n : (c ≡ letter_n → ⊥)) (r : (c ≡ letter_r → ⊥)) (w : (c ≡ letter_w → ⊥)) (d : (c ≡ letter_c → ⊥)) (k : (c ≡ letter_k → ⊥))
    (f : (c ≡ letter_f → ⊥)) (s : (c ≡ letter_s → ⊥)) where
  pub no_letter : (l : Option (List ℕ)) → request_of c l ≡ Unreadable
  unfolding request_of with_one with_two with_three with_four
  no_letter None = refl
  no_letter (Some []) = refl
  no_letter (Some (b ∷ [])) = cc (ne_eqb c letter_c d, ne_eqb c letter_k k, ne_eqb c letter_s s)
  no_letter (Some (b ∷ i ∷ [])) = cc (ne_eqb c letter_n n, ne_eqb c letter_f f)
  no_letter (Some (b ∷ p ∷ o ∷ [])) = cc (ne_eqb c letter_r r)
  no_letter (Some (b ∷ p ∷ o ∷ v ∷ [])) = cc (ne_eqb c letter_w w)
  no_letter (Some (b ∷ p ∷ o ∷ v ∷ x ∷ l)) = refl

space_unread : (l : Option (List ℕ)) → request_of space l ≡ Unreadable
space_unread =
    no_letter space (λ x. omega arith) (λ x. omega arith) (λ x. omega arith) (λ x. omega arith) (λ x. omega arith) (λ x. omega arith) (λ x. omega arith)

-- the byte behind the first is a space
space_behind : (c : ℕ) (l : List ℕ) → length (c ∷ space ∷ l) ≤ most_bytes → request (c ∷ space ∷ l) ≡ request_of c (numbers_from (Some []) (words l))
unfolding request request_in words longer
space_behind c l h =
    let few = le-ltb most_bytes (length (c ∷ space ∷ l)) h in
    by_bool (eqb c space) (λ e. cc (few, eqb-true c space e, space_unread (numbers_from (Some []) (words l)))) (λ e. cc (few, e))

pub request_letter_at : (l : List ℕ) → 2 ≤ length l → length l ≤ most_bytes → get_or l 1 0 ≡ space
    → request l ≡ request_of (get_or l 0 0) (numbers_from (Some []) (words (drop 2 l)))
request_letter_at [] h k e = absurd (omega arith)
request_letter_at (c ∷ []) h k e = absurd (omega arith)
request_letter_at (c ∷ d ∷ l) h k e = rw e (space_behind c l k)

-- there is none
pub request_short : (l : List ℕ) → length l < 2 → request l ≡ Unreadable
unfolding request request_in words longer request_of numbers_from
request_short [] h = refl
request_short (c ∷ []) h = by_bool (eqb c space) (λ e. cc e) (λ e. cc e)
request_short (c ∷ d ∷ l) h = absurd (omega arith)

-- another byte stands there, so the first word is longer
other_behind : (c d : ℕ) (l : List ℕ) → length (c ∷ d ∷ l) ≤ most_bytes → eqb d space ≡ false → request (c ∷ d ∷ l) ≡ Unreadable
unfolding request request_in words longer
other_behind c d l h e = by_bool (eqb c space) (λ t. cc (le-ltb most_bytes _ h, e, t)) (λ t. cc (le-ltb most_bytes _ h, e, t, words_first l))

pub request_other_byte : (l : List ℕ) → 2 ≤ length l → length l ≤ most_bytes → (get_or l 1 0 ≡ space → ⊥) → request l ≡ Unreadable
request_other_byte [] h k e = absurd (omega arith)
request_other_byte (c ∷ []) h k e = absurd (omega arith)
request_other_byte (c ∷ d ∷ l) h k e = other_behind c d l k (ne_eqb d space e)

pub request_long : (l : List ℕ) → most_bytes < length l → request l ≡ Unreadable
unfolding request
request_long l h = cc (lt-ltb most_bytes (length l) h)

request_words : (l : List ℕ) → length l ≤ most_bytes → request l ≡ request_in (take (word_length l) l ∷ words_behind (drop (word_length l) l))
unfolding request
request_words l h = cc (le-ltb most_bytes (length l) h, words_first l)

letter_alone : (w : List ℕ) (ws : List (List ℕ)) → length w ≡ 1 → request_in (w ∷ ws) ≡ request_of (get_or w 0 0) (numbers_from (Some []) ws)
unfolding request_in
letter_alone [] ws e = absurd (omega arith)
letter_alone (c ∷ []) ws e = refl
letter_alone (c ∷ d ∷ w) ws e = absurd (omega arith)

letter_not_alone : (w : List ℕ) (ws : List (List ℕ)) → (length w ≡ 1 → ⊥) → request_in (w ∷ ws) ≡ Unreadable
unfolding request_in
letter_not_alone [] ws h = refl
letter_not_alone (c ∷ []) ws h = absurd (h refl)
letter_not_alone (c ∷ d ∷ w) ws h = refl

first_length : (l : List ℕ) → length (take (word_length l) l) ≡ word_length l
first_length l = length-take-le (word_length l) l (word_within l)

pub request_letter : (l : List ℕ) → length l ≤ most_bytes → word_length l ≡ 1
    → request l ≡ request_of (get_or l 0 0) (numbers_from (Some []) (words_behind (drop 1 l)))
request_letter l h e =
    request_words l h ∙ letter_alone (take (word_length l) l) _ (first_length l ∙ e) ∙ rw e (rw (get_or-take 1 l 0 0 (omega arith)))

pub request_other : (l : List ℕ) → length l ≤ most_bytes → (word_length l ≡ 1 → ⊥) → request l ≡ Unreadable
request_other l h e = request_words l h ∙ letter_not_alone (take (word_length l) l) _ (λ k. e (sym (first_length l) ∙ k))

-- a slice from a place to the end
pub tail_part : (l : List ℕ) (a : ℕ) → take (length l - a) (drop a l) ≡ drop a l
tail_part l a = take_all (length l - a) (drop a l) (simp length-drop (omega arith))

-- the word found at a place ends within the line
pub word_ends : (l : List ℕ) (i n : ℕ) → i < length l → n ≡ word_length (drop (i + 1) l) → i + 1 + n ≤ length l
word_ends l i n h e = omega (arith, word_within (drop (i + 1) l), length-drop (i + 1) l)

-- the loop over the words: at a place where a space stands, and at the end
pub numbers_next_at : (f : Option (List ℕ)) (l : List ℕ) (i n : ℕ) → i < length l → n ≡ word_length (drop (i + 1) l)
    → numbers_from f (words_behind (drop i l)) ≡ numbers_from (more f (number (take n (drop (i + 1) l)))) (words_behind (drop (i + 1 + n) l))
numbers_next_at f l i n h e =
    rw (drop-cons l i 0 h, add-one i)
    (numbers_next f (get_or l i 0) (drop (suc i) l) ∙ rw (← rw (add-one i) at e) (rw (drop-drop n (suc i) l)))

pub numbers_end_at : (f : Option (List ℕ)) (l : List ℕ) (i : ℕ) → length l ≤ i → numbers_from f (words_behind (drop i l)) ≡ f
unfolding numbers_from words_behind
numbers_end_at f l i h = rw (drop_of_length-le l h)
