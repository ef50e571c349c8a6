-- Names of conversations (this project's own).
use Rattle.std.specs.Prelude.{ℕ, Bool, true, ◌&&◌, ◌||◌, ◌==◌, not, nat_le, nat_lt, List, [], ◌∷◌, length, codes}
use Rattle.std.specs.Str.{bytes_eq}
use Rattle.scrib_types.specs.Names.{is_word_byte}

-- a letter, a digit, or one of `_ . : -`
abbrev pub is_session_byte : ℕ → Bool
is_session_byte b = is_word_byte b || (b == 46) || (b == 58) || (b == 45)

-- each byte is such
abbrev pub all_session_bytes : List ℕ → Bool
all_session_bytes [] = true
all_session_bytes (b ∷ bs) = is_session_byte b && all_session_bytes bs

-- the first word of a refusal, or of a line about a sweep
abbrev pub is_refusal_word : List ℕ → Bool
is_refusal_word w = bytes_eq w (codes "refused") || bytes_eq w (codes "sweep")

-- the first word of a reply to an edit or to a change of the profile
abbrev pub is_edit_word : List ℕ → Bool
is_edit_word w = bytes_eq w (codes "put") || bytes_eq w (codes "withdraw") || bytes_eq w (codes "profile")

-- the first word of a reply to an opening or a close
abbrev pub is_session_word : List ℕ → Bool
is_session_word w = bytes_eq w (codes "open") || bytes_eq w (codes "close")

-- a word that begins a reply and is no conversation's name there
abbrev pub is_reply_word : List ℕ → Bool
is_reply_word w = is_refusal_word w || is_edit_word w || is_session_word w

-- the name of a conversation: 1 to 128 such bytes, and no word that begins a reply
abbrev pub is_session_name : List ℕ → Bool
is_session_name bytes =
    nat_lt 0 (length bytes) && nat_le (length bytes) 128 && all_session_bytes bytes && not (is_reply_word bytes)
