use Rattle.cp_http.proofs.short_texts.ShortText.+push_digits.Given as goal

abbrev pub decreases-push_digits : goal.decreases-push_digits
decreases-push_digits l = l.number
